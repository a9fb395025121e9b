-- `sheet::write` meets its contract.
use Rattle.std.proofs.Common.{sym, ◌∙◌}
use Rattle.laws.proofs.Firsts.{handed_on}
use Rattle.outline.specs.Lending.{write_answer, write_leaves}
use Rattle.filling.proofs.Answers.{answers_refused}
use Rattle.sheet.proofs.write.Goals as goal

pub write_good-requires : goal.write_good-requires
write_good-requires c = sym c.in_ok-judge.ensures

pub returns-in_err-judge : goal.returns-in_err-judge
unfolding write_answer write_leaves
returns-in_err-judge c =
    let w = answers_refused _ _ _ _ (sym c.in_err-judge.ensures) in
    record { value = handed_on _ c.from_residual.ensures.1 ∙ w.0; book_after = w.1 }
