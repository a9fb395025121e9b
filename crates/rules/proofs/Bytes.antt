-- A map whose numbers are not all bytes.
use Prim.Native.Nat.{ℕ, ◌≤◌, ◌<◌}
use mathlib.Core.Path.{◌≡◌, sym}
use mathlib.Core.Bool.{false}
use mathlib.Core.List.{List}
use lib.ListN.{length, get_or}
use lib.Dec.{ltb}
use borrow.Author.Tests.{le-ltb}
use Rattle.outline.specs.Tests.{all_below}
use Rattle.laws.proofs.Tests.{all_stops}

pub not_bytes : (map : List ℕ) (i : ℕ) → i < length map → 256 ≤ get_or map i 0 → false ≡ all_below (λ i. ltb (get_or map i 0) 256) (length map)
not_bytes map i h l = sym (all_stops _ _ _ h (le-ltb _ _ l))
