-- `routes::Route::reach` meets its contract.
use Rattle.routes.proofs.Rides.{rides_length, rides_at, reach_next}
use Rattle.routes.specs.Held.{rides_of}
use lib.ListN.{length}
use Rattle.outline.specs.Book.{network}
use Rattle.outline.specs.Network.{link_between}
use Rattle.outline.specs.Routes.{ride_at, boarded_at, alighted_at}
use Rattle.outline.specs.declared.Leg.{Leg}
use Prim.Native.Nat.{◌-◌, ◌<◌}
use native.Mathlib.Omega.{arith}
use mathlib.Core.Path.{◌≡◌, ap, ◌∙◌}
use Rattle.routes.proofs.Route.reach.Goals as goal

pub returns : goal.returns
returns c =
    let long = rides_length c.args.self c.requires in
    let last : c.args.self.count - 1 ≡ length (rides_of c.args.self) - 1 = omega arith in
    let some : 0 < length (rides_of c.args.self) = omega arith in
    let found = rw (c.alighted.ensures, c.boarded.ensures) at c.link_between.ensures in
    reach_next _ (rides_of c.args.self) c.args.l _ some
    (found
    ∙ ap (λ (e : Leg). link_between (network c.args.book.bytes.now) (alighted_at e) (boarded_at c.args.l))
    (rides_at c.args.self c.requires (c.args.self.count - 1) _ (omega arith) ∙ ap (ride_at (rides_of c.args.self)) last))
