-- `search::judge` meets its contract.
use Rattle.std.proofs.Common.{sym}
use Rattle.laws.proofs.Firsts.{then_after, then_handed_on}
use Rattle.laws.proofs.Judging.{book_good}
use Rattle.search.proofs.judge.Goals as goal

pub returns-in_err-judge : goal.returns-in_err-judge
returns-in_err-judge c = then_handed_on _ _ _ c.in_err-judge.ensures c.from_residual.ensures.1

pub invariant_of-judge : goal.invariant_of-judge
invariant_of-judge c = record { laid_out = ((book_good _).0 (sym c.in_ok-judge.ensures)).laid_out }

pub returns : goal.returns
returns c = then_after _ _ _ c.in_ok-judge.ensures c.judge-2.ensures
