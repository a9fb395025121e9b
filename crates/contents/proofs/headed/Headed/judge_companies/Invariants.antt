-- `contents::headed::Headed::judge_companies` meets its contract.
use Rattle.std.proofs.Common.{◌≡◌, Ok}
use Rattle.outline.specs.Refusals.{first_below}
use Rattle.outline.specs.Judging.{company_check}
use Rattle.contents.proofs.headed.Headed.judge_companies.Given as goal

abbrev pub invariant-loop-c : goal.invariant-loop-c
invariant-loop-c l = first_below (company_check l.self.bytes.now) l.c ≡ Ok tt
