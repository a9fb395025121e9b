-- `sheet::read` meets its contract.
use Rattle.std.proofs.Common.{sym, ◌∙◌}
use Rattle.laws.proofs.Judging.{book_good}
use Rattle.laws.proofs.Firsts.{handed_on}
use Rattle.outline.specs.Lending.{read_answer, read_leaves}
use Rattle.filling.proofs.Answers.{answers_refused}
use Rattle.sheet.proofs.read.Goals as goal

pub invariant_of-book : goal.invariant_of-book
invariant_of-book c = record { laid_out = ((book_good _).0 (sym c.in_ok-judge.ensures)).laid_out }

pub invariant_of-read_good : goal.invariant_of-read_good
invariant_of-read_good c = record { valid = (book_good _).0 (sym c.in_ok-judge.ensures) }

pub returns-in_err-judge : goal.returns-in_err-judge
unfolding read_answer read_leaves
returns-in_err-judge c =
    let w = answers_refused _ _ _ _ (sym c.in_err-judge.ensures) in
    record { value = handed_on _ c.from_residual.ensures.1 ∙ w.0; sheet_after = w.1 }
