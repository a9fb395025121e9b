-- `selection::on_book::OnBook::best_of_four` meets its contract.
use Rattle.selection.proofs.Fronts.{sound_one, sound_two, chosen_next}
use Rattle.outline.specs.Choosing.{best_from}
use Rattle.selection.specs.Chosen.{earn_in}
use Rattle.outline.specs.Book.{network}
use native.Mathlib.Omega.{arith}
use Rattle.selection.proofs.on_book.OnBook.best_of_four.Goals as goal

pub best_of_three-alone-requires-clause-three : goal.best_of_three-alone-requires-clause-three
best_of_three-alone-requires-clause-three c = c.requires

pub best_of_three-alone-requires-clause-chosen : goal.best_of_three-alone-requires-clause-chosen
best_of_three-alone-requires-clause-chosen c = c.best_of_two-pair.ensures

pub or_run-four-requires : goal.or_run-four-requires
or_run-four-requires c =
    let earn = earn_in c.args.self.book.bytes.now c.args.self.route in
    let rules = (network c.args.self.book.bytes.now).rules in
    (record { ends = c.requires; some = omega arith }, sound_one earn (c.none-none.ensures earn), sound_two earn c.best_of_three-alone.ensures)

pub or_run-three-requires : goal.or_run-three-requires
or_run-three-requires c =
    let earn = earn_in c.args.self.book.bytes.now c.args.self.route in
    let rules = (network c.args.self.book.bytes.now).rules in
    (record { ends = omega (arith, c.requires); some = omega arith }, sound_one earn (c.none-none.ensures earn), sound_two earn c.or_run-four.ensures)

pub or_run-requires : goal.or_run-requires
or_run-requires c =
    let earn = earn_in c.args.self.book.bytes.now c.args.self.route in
    let rules = (network c.args.self.book.bytes.now).rules in
    (record { ends = omega (arith, c.requires); some = omega arith }, c.best_of_two-pair.ensures.sound, sound_two earn c.or_run-three.ensures)

pub returns : goal.returns
unfolding best_from
returns c =
    let earn = earn_in c.args.self.book.bytes.now c.args.self.route in
    let rules = (network c.args.self.book.bytes.now).rules in
    let none = c.none-none.ensures earn in
    let four = chosen_next earn rules 0 4 none c.best_of_three-alone.ensures c.or_run-four.ensures in
    let three = chosen_next earn rules 0 3 none four c.or_run-three.ensures in
    chosen_next earn rules 0 2 c.best_of_two-pair.ensures three c.or_run.ensures
