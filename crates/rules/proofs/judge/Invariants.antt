-- `rules::judge` meets its contract.
use Rattle.std.proofs.Common.{◌≡◌, Ok}
use Rattle.outline.specs.Refusals.{first_below}
use Rattle.outline.specs.Network.{network_of}
use Rattle.outline.specs.Judging.{rule_check}
use Rattle.rules.proofs.judge.Given as goal

abbrev pub invariant-loop-k : goal.invariant-loop-k
invariant-loop-k g l = first_below (rule_check (network_of (g.S.Source.fares l.source))) l.k ≡ Ok tt
