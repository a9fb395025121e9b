-- The places of the answer.
use Prim.Native.Nat.{ℕ, ◌≤◌, ◌<◌}
use Rattle.std.proofs.Common.{Ok}
use mathlib.Core.Path.{◌≡◌, ap, ◌∙◌}
use mathlib.Core.List.{List, [], ◌∷◌}
use native.Mathlib.Omega.{arith}
use lib.ListN.{length, take, get_or}
use borrow.Author.Tests.{lt-ltb, le-ltb}
use Rattle.outline.specs.declared.Leg.{Leg}
use Rattle.outline.specs.declared.Run.{Run}
use Rattle.outline.specs.declared.Ride.{Ride}
use Rattle.outline.specs.declared.Paid.{Paid}
use Rattle.outline.specs.declared.Paid.TheVariants.{Full, ByRule}
use Rattle.outline.specs.declared.Answer.{Answer}
use Rattle.outline.specs.Tests.{choose}
use Rattle.outline.specs.Network.{Network}
use Rattle.outline.specs.Price.{fare_of, runs_of, belongs, paid_by, paid_ride, unused, place_at, answer_with, answer_of}
use Rattle.routes.specs.declared.Route.{Route}
use Rattle.routes.specs.Held.{rides_of, Sized}
use Rattle.routes.proofs.Rides.{rides_length, rides_at}

pub paid_none : (n : ℕ) (a b : Run) (i : ℕ) → n ≡ 0 → Full ≡ paid_by (take n (a ∷ b ∷ [])) i
unfolding paid_by
paid_none n a b i e = rw e

pub paid_one : (n : ℕ) (a b : Run) (i : ℕ) → n ≡ 1 → choose (belongs i a) (ByRule a.rule) Full ≡ paid_by (take n (a ∷ b ∷ [])) i
unfolding paid_by
paid_one n a b i e = rw e

pub paid_two : (n : ℕ) (a b : Run) (i : ℕ) (p : Paid) → n ≡ 2 → p ≡ choose (belongs i b) (ByRule b.rule) Full
    → choose (belongs i a) (ByRule a.rule) p ≡ paid_by (take n (a ∷ b ∷ [])) i
unfolding paid_by
paid_two n a b i p e h = rw (e, h)

module _ (r : Route) (sized : Sized r) (runs : List Run) (i : ℕ) where
  pub place_used : (d : Leg) (p : Paid) → i < r.count → p ≡ paid_by runs i → paid_ride (get_or r.legs i d) p ≡ place_at (rides_of r) runs i
  unfolding place_at choose
  place_used d p h e =
      let long = rides_length r sized in
      let t = lt-ltb i (length (rides_of r)) (omega arith) in
      rw (t, ← e, ← rides_at r sized i d h)

  pub place_unused : r.count ≤ i → unused ≡ place_at (rides_of r) runs i
  unfolding place_at choose
  place_unused h =
      let long = rides_length r sized in
      let t = le-ltb i (length (rides_of r)) (omega arith) in
      rw t

-- an answer is made of its parts
abbrev made : ℕ → ℕ → Ride → Ride → Ride → Ride → Answer
made fare rides a b c d = record { judged = Ok tt; fare = fare; rides = rides; places = a ∷ b ∷ c ∷ d ∷ [] }

pub answer_is : (N : Network) (route : List Leg) (runs : List Run) (fare rides : ℕ) (a b c d : Ride)
    → fare ≡ fare_of N route → rides ≡ length route → runs ≡ runs_of N route
    → a ≡ place_at route runs 0 → b ≡ place_at route runs 1 → c ≡ place_at route runs 2 → d ≡ place_at route runs 3
    → made fare rides a b c d ≡ answer_of N route
unfolding answer_of answer_with fare_of
answer_is N route runs fare rides a b c d e f g h j k l =
    parts
    ∙ ap (λ (s : List Run). made (fare_of N route) (length route) (place_at route s 0) (place_at route s 1) (place_at route s 2) (place_at route s 3)) g
  where
    parts : made fare rides a b c d ≡ made (fare_of N route) (length route) (place_at route runs 0) (place_at route runs 1) (place_at route runs 2) (place_at route runs 3)
    parts = λ i. made (e i) (f i) (h i) (j i) (k i) (l i)
