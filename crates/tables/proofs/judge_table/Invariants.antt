-- `tables::judge_table` meets its contract.
use Rattle.std.proofs.Common.{◌≡◌, Ok}
use Rattle.outline.specs.Refusals.{first_below}
use Rattle.outline.specs.Judging.{row_check}
use Rattle.tables.proofs.judge_table.Given as goal

abbrev pub invariant-loop-i : goal.invariant-loop-i
invariant-loop-i g l = first_below (row_check (g.C.Company.place l.company) (g.C.Company.table l.company)) l.i ≡ Ok tt
