-- `search::Search::by_rides` and `search::Search::by_links`, which call each other, meet their contracts: the rides left fall.
use Rattle.std.specs.Prelude.{IfSome, unwrap_or}
use Rattle.outline.specs.Book.{network}
use Rattle.routes.specs.Held.{rides_of}
use Rattle.cheapest.specs.Onward.{Over, SomeBelow}
use Rattle.best.specs.Kept.{Improves}
use Prim.Native.Nat.{◌+◌, ◌-◌, ◌<◌}
use Rattle.search.proofs.Search.+by_links_by_rides.Given as goal

abbrev pub decreases-by_links : goal.decreases-by_links
decreases-by_links l = l.left + l.left + 1

abbrev pub decreases-by_rides : goal.decreases-by_rides
decreases-by_rides l = l.left + l.left

abbrev pub invariant-by_rides-loop-next : goal.invariant-by_rides-loop-next
invariant-by_rides-loop-next l = IfSome l.next (λ k. k < (network l.self.good.book.bytes.now).links)
    × Improves (network l.self.good.book.bytes.now) l.initial.kept l.kept (λ R. SomeBelow (unwrap_or l.next (network l.self.good.book.bytes.now).links) (λ i. Over (network l.self.good.book.bytes.now) l.self.goal (l.left - 1) (rides_of l.path) l.at i R))

abbrev pub decreases-by_rides-loop-next : goal.decreases-by_rides-loop-next
decreases-by_rides-loop-next l = (network l.self.good.book.bytes.now).links - unwrap_or l.next (network l.self.good.book.bytes.now).links
