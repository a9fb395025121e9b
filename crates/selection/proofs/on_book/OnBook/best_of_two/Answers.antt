-- `selection::on_book::OnBook::best_of_two` meets its contract.
use Rattle.selection.proofs.Fronts.{sound_one, sound_two, chosen_next, chosen_few}
use Rattle.outline.specs.Choosing.{best_from}
use Rattle.selection.specs.Chosen.{earn_in}
use Rattle.outline.specs.Book.{network}
use native.Mathlib.Omega.{arith}
use Rattle.selection.proofs.on_book.OnBook.best_of_two.Goals as goal

pub or_run-requires : goal.or_run-requires
or_run-requires c =
    let earn = earn_in c.args.self.book.bytes.now c.args.self.route in
    let rules = (network c.args.self.book.bytes.now).rules in
    let none = c.none-none.ensures earn in
    (record { ends = c.requires; some = omega arith }, sound_one earn none, sound_two earn none)

pub returns : goal.returns
unfolding best_from
returns c =
    let earn = earn_in c.args.self.book.bytes.now c.args.self.route in
    let rules = (network c.args.self.book.bytes.now).rules in
    let none = c.none-none.ensures earn in
    chosen_few earn (omega (arith, none.sound.few, c.or_run.ensures.sound.few)) (chosen_next earn rules c.args.at 2 none none c.or_run.ensures)
