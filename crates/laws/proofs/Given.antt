-- The bytes of a given route and its rides.
use Prim.Native.Nat.{ℕ, zero, suc, ◌+◌, ◌*◌, ◌/◌, ◌≤◌, ◌<◌}
use mathlib.Core.Path.{◌≡◌, refl, ap, ◌∙◌}
use mathlib.Core.Bool.{true}
use mathlib.Core.List.{List, [], ◌∷◌}
use mathlib.Core.Logic.{◌⊎◌, inl, inr, ⊎_elim, ◌↔◌}
use native.Mathlib.Nat.{not-suc-le-zero, mul-div_cancel_left}
use native.Mathlib.Omega.{arith}
use lib.ListN.{length, get_or}
use lib.Dec.{eqb}
use lib.Seq.{ext_get_or}
use borrow.Author.Tests.{eqb-true}
use Rattle.outline.specs.declared.Leg.{Leg}
use Rattle.outline.specs.Numbers.{most_rides}
use Rattle.outline.specs.Tests.{either, Within}
use Rattle.outline.specs.Routes.{no_ride, ride_at, bytes_of, given_ride, route_of, good_length}
use Rattle.laws.proofs.Tests.{either_true, get_or-list_of, length-list_of}

-- n bytes are those of one to four whole rides
pub record Whole (n : ℕ) : Type 0 where
  pub exact : n ≡ 3 * (n / 3)
  pub few : Within 1 (n / 3) most_rides

pub whole_is : (n : ℕ) → (good_length n ≡ true) ↔ Whole n
unfolding good_length either
whole_is n = (tells, λ w. holds (n / 3) w.exact w.few.from w.few.to)
  where
    three : (m : ℕ) → n ≡ m → Whole m → Whole n
    three m e w = rw e w

    tells : good_length n ≡ true → Whole n
    tells t =
        ⊎_elim (λ e. three 3 (eqb-true _ _ e) (record { exact = refl; few = record { from = omega arith; to = omega arith } }))
        (λ t.
        ⊎_elim (λ e. three 6 (eqb-true _ _ e) (record { exact = refl; few = record { from = omega arith; to = omega arith } }))
        (λ t.
        ⊎_elim (λ e. three 9 (eqb-true _ _ e) (record { exact = refl; few = record { from = omega arith; to = omega arith } }))
        (λ e. three 12 (eqb-true _ _ e) (record { exact = refl; few = record { from = omega arith; to = omega arith } }))
        (either_true _ _ t))
        (either_true _ _ t))
        (either_true (eqb n 3) _ t)

    holds : (m : ℕ) → n ≡ 3 * m → 1 ≤ m → m ≤ most_rides → good_length n ≡ true
    holds zero e h l = absurd (omega arith)
    holds (suc zero) e h l = rw e
    holds (suc (suc zero)) e h l = rw e
    holds (suc (suc (suc zero))) e h l = rw e
    holds (suc (suc (suc (suc zero)))) e h l = rw e
    holds (suc (suc (suc (suc (suc m))))) e h l = absurd (omega arith)

pub route_length : (bytes : List ℕ) → length (route_of bytes) ≡ length bytes / 3
unfolding route_of
route_length bytes = length-list_of (given_ride bytes) (length bytes / 3)

pub route_at : (bytes : List ℕ) (i : ℕ) → i < length bytes / 3 → ride_at (route_of bytes) i ≡ given_ride bytes i
unfolding route_of
route_at bytes i h = get_or-list_of (given_ride bytes) (length bytes / 3) i no_ride h

-- ---- bytes and rides

pub bytes_length : (route : List Leg) → length (bytes_of route) ≡ 3 * length route
unfolding bytes_of
bytes_length [] = refl
bytes_length (l ∷ route) = let e = bytes_length route in omega arith

-- the three bytes of ride i
pub bytes_at : (route : List Leg) (i : ℕ) → i < length route → given_ride (bytes_of route) i ≡ ride_at route i
unfolding bytes_of
bytes_at [] i h = absurd (not-suc-le-zero h)
bytes_at (l ∷ route) zero h = refl
bytes_at (l ∷ route) (suc i) h =
    let a : 3 * suc i ≡ suc (suc (suc (3 * i))) = omega arith in
    let b : 3 * suc i + 1 ≡ suc (suc (suc (3 * i + 1))) = omega arith in
    let c : 3 * suc i + 2 ≡ suc (suc (suc (3 * i + 2))) = omega arith in
    rw (b, c, a) (bytes_at route i (omega arith))

pub thirds : (m : ℕ) → 3 * m / 3 ≡ m
thirds m = mul-div_cancel_left m (omega arith)

-- the rides of a route's bytes are the route
pub route_of_bytes : (route : List Leg) → route_of (bytes_of route) ≡ route
route_of_bytes route = ext_get_or no_ride (route_of (bytes_of route)) route long (λ i h. let l = long in let few = bytes in route_at (bytes_of route) i (omega arith) ∙ bytes_at route i (omega arith))
  where
    bytes : length (bytes_of route) / 3 ≡ length route
    bytes = ap (λ (n : ℕ). n / 3) (bytes_length route) ∙ thirds (length route)

    long : length (route_of (bytes_of route)) ≡ length route
    long = route_length (bytes_of route) ∙ bytes

-- place k is that of one of a ride's three bytes
record Third (k : ℕ) : Type 0 where
  ride : ℕ
  which : (k ≡ 3 * ride) ⊎ ((k ≡ 3 * ride + 1) ⊎ (k ≡ 3 * ride + 2))

third : (k : ℕ) → Third k
third zero = record { ride = 0; which = inl refl }
third (suc k) = go (third k)
  where
    go : Third k → Third (suc k)
    go h =
        ⊎_elim (λ e. record { ride = h.ride; which = inr (inl (omega arith)) })
        (⊎_elim (λ e. record { ride = h.ride; which = inr (inr (omega arith)) }) (λ e. record { ride = suc h.ride; which = inl (omega arith) }))
        h.which

-- the bytes of whole rides are those of their route
pub bytes_of_route : (bytes : List ℕ) → Whole (length bytes) → bytes_of (route_of bytes) ≡ bytes
bytes_of_route bytes w = ext_get_or 0 (bytes_of (route_of bytes)) bytes long same
  where
    long : length (bytes_of (route_of bytes)) ≡ length bytes
    long = let a = bytes_length (route_of bytes) in let b = route_length bytes in let c = w.exact in omega arith

    ride : (i : ℕ) → i < length bytes / 3 → given_ride (bytes_of (route_of bytes)) i ≡ given_ride bytes i
    ride i h = let b = route_length bytes in bytes_at (route_of bytes) i (omega arith) ∙ route_at bytes i h

    at : (k : ℕ) (t : Third k) → t.ride < length bytes / 3 → get_or (bytes_of (route_of bytes)) k 0 ≡ get_or bytes k 0
    at k t h =
        ⊎_elim (λ e. rw e (ap (λ (l : Leg). l.company) (ride t.ride h)))
        (⊎_elim (λ e. rw e (ap (λ (l : Leg). l.boarding) (ride t.ride h))) (λ e. rw e (ap (λ (l : Leg). l.alighting) (ride t.ride h))))
        t.which

    same : (k : ℕ) → k < length (bytes_of (route_of bytes)) → get_or (bytes_of (route_of bytes)) k 0 ≡ get_or bytes k 0
    same k h =
        let l = long in
        let c = w.exact in
        let t = third k in
        at k t (⊎_elim (λ e. omega arith) (⊎_elim (λ e. omega arith) (λ e. omega arith)) t.which)
