-- `contents::headed::Headed::judge_companies` meets its contract.
use Rattle.std.proofs.Common.{arith}
use Rattle.laws.proofs.Firsts.{first_handed_on}
use Rattle.contents.proofs.headed.Headed.judge_companies.Goals as goal

pub returns-in_err-judge_company : goal.returns-in_err-judge_company
returns-in_err-judge_company c = first_handed_on _ _ _ _ c.loop-c.invariant (omega arith) c.in_err-judge_company.ensures c.from_residual.ensures.1
