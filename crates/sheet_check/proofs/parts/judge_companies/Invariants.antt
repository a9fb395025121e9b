-- `sheet_check::parts::judge_companies` meets its contract.
use Rattle.std.proofs.Common.{◌≡◌, Ok}
use Rattle.outline.specs.Refusals.{first_below}
use Rattle.outline.specs.Sheet.{company_start}
use Rattle.outline.specs.SheetJudging.{numbers_check}
use Rattle.sheet_check.proofs.parts.judge_companies.Given as goal

abbrev pub invariant-loop-c : goal.invariant-loop-c
invariant-loop-c l = (l.at ≡ company_start l.sheet l.c) × (first_below (numbers_check l.sheet) l.c ≡ Ok tt)
