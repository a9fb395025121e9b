-- `sheet::read_good` meets its contract.
use mathlib.Core.Path.{ap, ◌∙◌}
use Rattle.std.proofs.Common.{Ok}
use Rattle.laws.proofs.Judging.{book_good}
use Rattle.outline.specs.Lending.{read_answer, read_leaves}
use Rattle.filling.proofs.Answers.{answers_no_room, answers_wrote}
use Rattle.sheet.proofs.read_good.Goals as goal

pub returns-then-sheet-numbers : goal.returns-then-sheet-numbers
unfolding read_answer read_leaves
returns-then-sheet-numbers c = let w = answers_no_room _ _ _ ((book_good _).1 c.args.good.valid) (rw c.sheet_length-numbers.ensures at c.if-sheet-numbers.true) in record { value = w.0; sheet_after = w.1 }

pub fill-requires : goal.fill-requires
fill-requires c = rw c.sheet_length-numbers.ensures at c.if-sheet-numbers.false

pub returns : goal.returns
unfolding read_answer read_leaves
returns c = let w = answers_wrote _ _ _ ((book_good _).1 c.args.good.valid) (rw c.sheet_length-numbers.ensures at c.if-sheet-numbers.false) in record { value = ap Ok c.sheet_length-numbers.ensures ∙ w.0; sheet_after = c.fill.ensures ∙ w.1 }
