-- `links::judge` meets its contract.
use Rattle.std.proofs.Common.{◌≡◌, Ok}
use Rattle.outline.specs.Refusals.{first_below}
use Rattle.outline.specs.Network.{network_of}
use Rattle.outline.specs.Judging.{link_check}
use Rattle.links.proofs.judge.Given as goal

abbrev pub invariant-loop-k : goal.invariant-loop-k
invariant-loop-k g l = first_below (link_check (network_of (g.S.Source.fares l.source))) l.k ≡ Ok tt
