-- `tables::judge_table` meets its contract.
use Rattle.std.proofs.Common.{arith}
use Rattle.laws.proofs.Firsts.{first_handed_on}
use Rattle.outline.specs.Judging.{table_check}
use Rattle.tables.proofs.judge_table.Goals as goal

pub returns-in_err-judge_row : goal.returns-in_err-judge_row
unfolding table_check
returns-in_err-judge_row g c = first_handed_on _ _ _ _ c.loop-i.invariant (omega arith) c.in_err-judge_row.ensures c.from_residual.ensures.1
