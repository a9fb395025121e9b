-- `tables::judge` meets its contract.
use Rattle.std.proofs.Common.{arith}
use Rattle.laws.proofs.Firsts.{first_handed_on}
use Rattle.outline.specs.Judging.{tables_check}
use Rattle.tables.proofs.judge.Goals as goal

pub returns-in_err-judge_table : goal.returns-in_err-judge_table
unfolding tables_check
returns-in_err-judge_table g c =
    first_handed_on _ _ _ _ c.loop-c.invariant (omega arith) (rw (c.company.ensures.says, c.company.ensures.stands) at c.in_err-judge_table.ensures) c.from_residual.ensures.1
