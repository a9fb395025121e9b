-- `routes::given::judge` meets its contract.
use Rattle.routes.specs.Held.{rides_of, Held}
use Rattle.std.proofs.Common.{Ok}
use Rattle.outline.specs.Routes.{route_of, ride_check}
use Rattle.outline.specs.Refusals.{first_below}
use Rattle.outline.specs.Book.{network}
use lib.ListN.{take}
use mathlib.Core.Path.{◌≡◌}
use Rattle.routes.proofs.given.judge.Given as goal

abbrev pub invariant-loop-i : goal.invariant-loop-i
invariant-loop-i l = Held (network l.book.bytes.now) l.route × (rides_of l.route ≡ take l.i (route_of l.bytes)) × (first_below (ride_check (network l.book.bytes.now) (route_of l.bytes)) l.i ≡ Ok tt)
