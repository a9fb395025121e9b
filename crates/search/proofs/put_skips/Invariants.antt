-- `search::put_skips` meets its contract.
use Prim.Native.Nat.{ℕ, ◌≤◌}
use mathlib.Core.Path.{◌≡◌}
use lib.ListN.{length, get_or}
use Rattle.outline.specs.Book.{body_of, links_entry, network}
use Rattle.search.specs.Steps.{Skip}
use Rattle.search.proofs.put_skips.Given as goal

abbrev pub invariant-loop-k : goal.invariant-loop-k
invariant-loop-k l = (l.n ≡ (network l.book.bytes.now).links) × (l.body ≡ body_of l.book.bytes.now (links_entry l.book.bytes.now)) × (l.k ≤ l.n) × (length l.skips ≡ length l.initial.skips)
    × Skip (network l.book.bytes.now) l.company l.k l.next × ((j : ℕ) → l.k ≤ j → j ≤ l.n → Skip (network l.book.bytes.now) l.company j (get_or l.skips j 0))
