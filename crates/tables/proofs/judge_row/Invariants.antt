-- `tables::judge_row` meets its contract.
use Rattle.std.proofs.Common.{◌≡◌, Ok}
use Rattle.outline.specs.Refusals.{first_below}
use Rattle.outline.specs.Judging.{entry_check}
use Rattle.tables.proofs.judge_row.Given as goal

abbrev pub invariant-loop-j : goal.invariant-loop-j
invariant-loop-j g l = first_below (entry_check (g.C.Company.place l.company) (g.C.Company.table l.company) l.i) l.j ≡ Ok tt
