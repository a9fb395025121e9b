-- `links::is_repeated` meets its contract.
use Rattle.std.proofs.Common.{◌≡◌, arith, refl, sym, ◌∙◌}
use Rattle.laws.proofs.Tests.{some_more, some_stops}
use Rattle.outline.specs.Tests.{some_below}
use Rattle.outline.specs.Network.{network_of}
use Rattle.outline.specs.Judging.{repeated}
use Rattle.links.proofs.is_repeated.Goals as goal

pub loop-j-init : goal.loop-j-init
unfolding some_below
loop-j-init g c = refl

pub returns-then-same_links : goal.returns-then-same_links
unfolding repeated network_of
returns-then-same_links g c = sym (some_stops _ _ c.loop-j.j (omega arith) (sym c.same_links.ensures ∙ c.if-same_links.true))

pub loop-j-preserved : goal.loop-j-preserved
loop-j-preserved g c = some_more _ _ c.loop-j.invariant (sym c.same_links.ensures ∙ c.if-same_links.false)

pub returns : goal.returns
unfolding repeated network_of
returns g c =
    let e : c.loop-j.j ≡ c.args.k = omega arith in
    sym (rw e at c.loop-j.invariant)
