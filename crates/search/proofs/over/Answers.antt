-- `search::over` meets its contract.
use native.Mathlib.Omega.{arith}
use mathlib.Core.Path.{◌≡◌, ap, ◌∙◌}
use Prim.Native.Nat.{◌-◌, ◌<◌}
use lib.ListN.{length}
use Rattle.outline.specs.Routes.{ride_at}
use Rattle.routes.specs.Held.{rides_of}
use Rattle.outline.specs.declared.Leg.{Leg}
use Rattle.cheapest.specs.Onward.{far_end}
use Rattle.routes.proofs.Rides.{rides_length, rides_at}
use Rattle.search.proofs.over.Goals as goal

pub overflow_sub-last : goal.overflow_sub-last
overflow_sub-last c =
    omega (arith, rides_length c.args.path c.requires.0, c.requires.1.some)

pub returns : goal.returns
returns c =
    let long = rides_length c.args.path c.requires.0 in
    let some = c.requires.1.some in
    let before : c.args.path.count - 1 < c.args.path.count = omega arith in
    let same : c.args.path.count - 1 ≡ length (rides_of c.args.path) - 1 = omega arith in
    let last = rides_at c.args.path c.requires.0 (c.args.path.count - 1) _ before ∙ ap (ride_at (rides_of c.args.path)) same in
    rw (← c.link.ensures) (c.far_end.ensures ∙ ap (λ (l : Leg). far_end c.link.result l.company) last)
