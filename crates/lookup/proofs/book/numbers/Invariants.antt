-- `lookup::book::numbers` meets its contract.
use Rattle.std.proofs.Common.{◌≡◌, ℕ, ◌<◌, length, get_or}
use Rattle.lookup.proofs.book.numbers.Given as goal

abbrev pub invariant-loop-i : goal.invariant-loop-i
invariant-loop-i g l = (length l.numbers ≡ length l.bytes) × ((k : ℕ) → k < l.i → get_or l.numbers k 0 ≡ get_or l.bytes k 0)
