-- Routes of which each ride is good after those before it: how they begin, and how they go on by one ride.
use Prim.Native.Nat.{ℕ, suc, ◌≤◌, ◌<◌}
use mathlib.Core.Path.{◌≡◌, sym}
use mathlib.Core.Bool.{true}
use mathlib.Core.Logic.{⊎_elim}
use mathlib.Core.List.{List, [], ◌∷◌, ◌++◌}
use native.Mathlib.Nat.{eq-or-lt_of_le, not-suc-le-zero}
use native.Mathlib.Omega.{arith}
use lib.ListN.{length, take, length-append, get_or-append}
use lib.Seq.{take-suc, take-take, get_or-take, take-append_seam, take-append-le, get_or-append_seam, length-take-le}
use Rattle.outline.specs.declared.Leg.{Leg}
use Rattle.outline.specs.Network.{Network}
use Rattle.laws.specs.Rides.{AllGood}
use Rattle.outline.specs.Routes.{no_ride, ride_at, good_next}

pub good_none : (N : Network) → AllGood N []
good_none N i h = absurd (not-suc-le-zero h)

pub good_more : (N : Network) (p : List Leg) (l : Leg) → AllGood N p → good_next N p l ≡ true → AllGood N (p ++ (l ∷ []))
good_more N p l good next i h =
    let few : i ≤ length p = omega (arith, length-append p (l ∷ [])) in
    ⊎_elim here before (eq-or-lt_of_le few)
  where
    here : i ≡ length p → good_next N (take i (p ++ (l ∷ []))) (ride_at (p ++ (l ∷ [])) i) ≡ true
    here e = rw (e, take-append_seam p (l ∷ []), get_or-append_seam p l [] no_ride) next

    before : i < length p → good_next N (take i (p ++ (l ∷ []))) (ride_at (p ++ (l ∷ [])) i) ≡ true
    before b = let few : i ≤ length p = omega arith in rw (take-append-le i p (l ∷ []) few, get_or-append p (l ∷ []) no_ride i b) (good i b)

pub good_front : (N : Network) (route : List Leg) (n : ℕ) → n ≤ length route → AllGood N route → AllGood N (take n route)
good_front N route n few good i h =
    let long = length-take-le n route few in
    let b : i < n = omega arith in
    let le : i ≤ n = omega arith in
    rw (take-take i n route le, get_or-take n route i no_ride b) (good i (omega arith))

pub one_more : (route : List Leg) (n : ℕ) → n < length route → take n route ++ (ride_at route n ∷ []) ≡ take (suc n) route
one_more route n h = sym (take-suc route n no_ride h)
