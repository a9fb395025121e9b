-- `selection::on_book::OnBook::best_of_three` meets its contract.
use Rattle.selection.proofs.Fronts.{sound_one, sound_two, chosen_next}
use Rattle.outline.specs.Choosing.{best_from}
use Rattle.selection.specs.Chosen.{earn_in}
use Rattle.outline.specs.Book.{network}
use native.Mathlib.Omega.{arith}
use Rattle.selection.proofs.on_book.OnBook.best_of_three.Goals as goal

pub or_run-three-requires : goal.or_run-three-requires
or_run-three-requires c =
    let earn = earn_in c.args.self.book.bytes.now c.args.self.route in
    let rules = (network c.args.self.book.bytes.now).rules in
    (record { ends = c.requires.three; some = omega arith }, sound_one earn (c.none-none.ensures earn), sound_two earn c.requires.chosen)

pub or_run-requires : goal.or_run-requires
or_run-requires c =
    let earn = earn_in c.args.self.book.bytes.now c.args.self.route in
    let rules = (network c.args.self.book.bytes.now).rules in
    (record { ends = omega (arith, c.requires.three); some = omega arith }, sound_one earn (c.none-none.ensures earn), sound_two earn c.or_run-three.ensures)

pub returns : goal.returns
unfolding best_from
returns c =
    let earn = earn_in c.args.self.book.bytes.now c.args.self.route in
    let rules = (network c.args.self.book.bytes.now).rules in
    let none = c.none-none.ensures earn in
    let three = chosen_next earn rules c.args.at 3 none c.requires.chosen c.or_run-three.ensures in
    chosen_next earn rules c.args.at 2 none three c.or_run.ensures
