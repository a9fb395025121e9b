-- `links::judge` meets its contract.
use Rattle.std.proofs.Common.{arith}
use Rattle.laws.proofs.Firsts.{first_handed_on, first_ends}
use Rattle.outline.specs.Network.{network_of}
use Rattle.links.proofs.judge.Goals as goal

pub returns-in_err-judge_link : goal.returns-in_err-judge_link
unfolding network_of
returns-in_err-judge_link g c = first_handed_on _ _ _ _ c.loop-k.invariant (omega arith) c.in_err-judge_link.ensures c.from_residual.ensures.1

pub returns : goal.returns
unfolding network_of
returns g c = first_ends _ _ _ (omega arith) c.loop-k.invariant
