-- `search::Search::next_link` meets its contract.
use mathlib.Core.Path.{◌≡◌}
use mathlib.Core.Bool.{false}
use Prim.Native.Nat.{ℕ, ◌-◌, ◌≤◌, ◌<◌}
use Rattle.outline.specs.Book.{body_of, links_entry, network}
use Rattle.search.specs.Steps.{leads_on}
use Rattle.search.proofs.Search.next_link.Given as goal

abbrev pub invariant-loop-k : goal.invariant-loop-k
invariant-loop-k l = (l.n ≡ (network l.self.good.book.bytes.now).links) × (l.body ≡ body_of l.self.good.book.bytes.now (links_entry l.self.good.book.bytes.now)) × (l.from ≤ l.k) × (l.k ≤ l.n)
    × ((j : ℕ) → l.from ≤ j → j < l.k → leads_on ((network l.self.good.book.bytes.now).link j) l.company l.self.goal l.left ≡ false)

abbrev pub decreases-loop-k : goal.decreases-loop-k
decreases-loop-k l = l.n - l.k
