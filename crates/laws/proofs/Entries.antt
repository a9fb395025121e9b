-- What the rides of a valid book cost: 1 to 9,999 yen each.
use Prim.Native.Nat.{ℕ, zero, suc, ◌*◌, ◌≤◌, ◌<◌}
use mathlib.Core.Path.{◌≡◌, refl}
use mathlib.Core.List.{List, [], ◌∷◌}
use native.Mathlib.Omega.{arith}
use lib.ListN.{length}
use Rattle.outline.specs.declared.Leg.{Leg}
use Rattle.std.specs.Prelude.{None}
use Rattle.outline.specs.Numbers.{most_fare}
use Rattle.outline.specs.Tests.{Within}
use Rattle.outline.specs.Fares.{fare_at, table_at}
use Rattle.outline.specs.Network.{Network, network_of, entry_of}
use Rattle.outline.specs.Book.{fares_of, network}
use Rattle.outline.specs.Valid.{ValidBook}
use Rattle.outline.specs.Routes.{entry_for, Exists, ride_at}
use Rattle.outline.specs.Matching.{yen_of, sum_of}

yen_of_entry : (x : ℕ) → x ≤ most_fare → (entry_of x ≡ None → ⊥) → Within 1 (yen_of (entry_of x)) most_fare
unfolding entry_of yen_of
yen_of_entry zero small sold = absurd (sold refl)
yen_of_entry (suc x) small sold = record { from = omega arith; to = small }

pub entry_within : (b : List ℕ) → ValidBook b → (l : Leg) → Exists (network b) l → Within 1 (yen_of (entry_for (network b) l)) most_fare
unfolding network network_of
entry_within b v l h =
    yen_of_entry (fare_at (table_at (fares_of b) l.company) l.boarding l.alighting)
    (v.fares.tables l.company h.company l.boarding l.alighting h.boarding h.alighting).small
    h.sold

-- each ride exists
abbrev pub AllExist : Network → List Leg → Type 0
AllExist N route = (i : ℕ) → i < length route → Exists N (ride_at route i)

pub sum-within : (b : List ℕ) → ValidBook b → (route : List Leg) → AllExist (network b) route → Within (length route) (sum_of (network b) route) (most_fare * length route)
unfolding sum_of
sum-within b v [] h = record { from = omega arith; to = omega arith }
sum-within b v (l ∷ route) h =
    let here = entry_within b v l (h 0 (omega arith)) in
    let rest = sum-within b v route (λ i k. h (suc i) (omega arith)) in
    record { from = omega (arith, here.from, rest.from); to = omega (arith, here.to, rest.to) }
