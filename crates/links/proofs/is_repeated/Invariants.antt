-- `links::is_repeated` meets its contract.
use Rattle.std.proofs.Common.{◌≡◌, ℕ, false}
use Rattle.outline.specs.Fares.{link_at}
use Rattle.outline.specs.Tests.{some_below}
use Rattle.outline.specs.Judging.{same_link}
use Rattle.links.proofs.is_repeated.Given as goal

abbrev pub invariant-loop-j : goal.invariant-loop-j
invariant-loop-j g l = some_below (λ (j : ℕ). same_link (link_at (g.S.Source.fares l.source) j) (link_at (g.S.Source.fares l.source) l.k)) l.j ≡ false
