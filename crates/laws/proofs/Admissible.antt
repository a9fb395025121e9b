-- A route is admissible exactly where it has one to four rides and each is good after those before it.
use Prim.Native.Nat.{ℕ, zero, suc, ◌+◌, ◌-◌, ◌*◌, ◌<◌}
use mathlib.Core.Path.{◌≡◌, refl, sym, ap, ◌∙◌}
use mathlib.Core.List.{List, [], ◌∷◌}
use mathlib.Core.Logic.{◌⊎◌, inl, inr, ⊎_elim, ◌↔◌}
use native.Mathlib.Nat.{not-suc-le-zero}
use native.Mathlib.Omega.{arith}
use lib.ListN.{length, get_or, take}
use lib.Seq.{length-take-le, get_or-take}
use Rattle.outline.specs.declared.Station.{Station}
use Rattle.outline.specs.declared.Leg.{Leg}
use Rattle.outline.specs.Numbers.{most_rides}
use Rattle.outline.specs.Tests.{Within}
use Rattle.outline.specs.Network.{Network}
use Rattle.outline.specs.Routes.{boarded_at, alighted_at, no_ride, ride_at, stations_of, Distinct, Admissible}
use Rattle.laws.proofs.Tests.{compared}
use Rattle.laws.specs.Rides.{AllGood}
use Rattle.laws.proofs.Routes.{Disjoint, GoodRide, next_is}

-- ---- the stations of a route, two to a ride

abbrev station_at : List Leg → ℕ → Station
station_at route k = get_or (stations_of route) k (boarded_at no_ride)

stations_length : (route : List Leg) → length (stations_of route) ≡ 2 * length route
unfolding stations_of
stations_length [] = refl
stations_length (l ∷ route) = let e = stations_length route in omega arith

boarded_station : (route : List Leg) (i : ℕ) → i < length route → station_at route (2 * i) ≡ boarded_at (ride_at route i)
unfolding stations_of
boarded_station [] i h = absurd (not-suc-le-zero h)
boarded_station (l ∷ route) zero h = refl
boarded_station (l ∷ route) (suc i) h = let e : 2 * suc i ≡ suc (suc (2 * i)) = omega arith in rw e (boarded_station route i (omega arith))

alighted_station : (route : List Leg) (i : ℕ) → i < length route → station_at route (2 * i + 1) ≡ alighted_at (ride_at route i)
unfolding stations_of
alighted_station [] i h = absurd (not-suc-le-zero h)
alighted_station (l ∷ route) zero h = refl
alighted_station (l ∷ route) (suc i) h = let e : 2 * suc i + 1 ≡ suc (suc (2 * i + 1)) = omega arith in rw e (alighted_station route i (omega arith))

-- place k is that of a ride's boarding or of its alighting station
record Half (k : ℕ) : Type 0 where
  ride : ℕ
  which : (k ≡ 2 * ride) ⊎ (k ≡ 2 * ride + 1)

half : (k : ℕ) → Half k
half zero = record { ride = 0; which = inl refl }
half (suc k) = go (half k)
  where
    go : Half k → Half (suc k)
    go h = ⊎_elim (λ e. record { ride = h.ride; which = inr (omega arith) }) (λ e. record { ride = suc h.ride; which = inl (omega arith) }) h.which

-- no two rides have a station in common, and no ride ends where it begins
pub record Separate (route : List Leg) : Type 0 where
  pub rides : (i : ℕ) → i < length route → boarded_at (ride_at route i) ≡ alighted_at (ride_at route i) → ⊥
  pub others : (j i : ℕ) → j < i → i < length route → Disjoint (ride_at route j) (ride_at route i)

pub distinct_is : (route : List Leg) → Distinct (stations_of route) ↔ Separate route
distinct_is route = (tells, holds)
  where
    long : length (stations_of route) ≡ 2 * length route
    long = stations_length route

    tells : Distinct (stations_of route) → Separate route
    tells d = record {
      rides = λ i h e.
          let l = long in
          d (2 * i) (2 * i + 1) (omega arith) (omega arith) (boarded_station route i h ∙ e ∙ sym (alighted_station route i h));
      others = λ j i k h.
          let l = long in
          let g : j < length route = omega arith in
          record {
            boarding = λ e. d (2 * j) (2 * i) (omega arith) (omega arith) (boarded_station route j g ∙ e ∙ sym (boarded_station route i h));
            alighting = λ e. d (2 * j + 1) (2 * i + 1) (omega arith) (omega arith) (alighted_station route j g ∙ e ∙ sym (alighted_station route i h));
            onward = λ e. d (2 * j + 1) (2 * i) (omega arith) (omega arith) (alighted_station route j g ∙ e ∙ sym (boarded_station route i h));
            back = λ e. d (2 * j) (2 * i + 1) (omega arith) (omega arith) (boarded_station route j g ∙ e ∙ sym (alighted_station route i h));
          };
    }

    -- the station at place x, by its ride
    at : (x : ℕ) (p : Half x) → p.ride < length route
        → ((x ≡ 2 * p.ride) × (station_at route x ≡ boarded_at (ride_at route p.ride))) ⊎ ((x ≡ 2 * p.ride + 1) × (station_at route x ≡ alighted_at (ride_at route p.ride)))
    at x p h = ⊎_elim
        (λ e. inl (e, ap (station_at route) e ∙ boarded_station route p.ride h))
        (λ e. inr (e, ap (station_at route) e ∙ alighted_station route p.ride h)) p.which

    holds : Separate route → Distinct (stations_of route)
    holds s x y l h e =
        let n = long in
        let p = half x in
        let q = half y in
        let a : p.ride < length route = ⊎_elim (λ u. omega arith) (λ u. omega arith) p.which in
        let b : q.ride < length route = ⊎_elim (λ u. omega arith) (λ u. omega arith) q.which in
        ⊎_elim
        (λ u. ⊎_elim
        (λ v. ⊎_elim (λ k. (s.others _ _ k b).boarding (sym u.1 ∙ e ∙ v.1)) (λ k. ⊎_elim (λ z. omega (arith, u.0, v.0)) (λ z. omega (arith, u.0, v.0)) k) (compared p.ride q.ride))
        (λ v. ⊎_elim (λ k. (s.others _ _ k b).back (sym u.1 ∙ e ∙ v.1))
        (λ k. ⊎_elim (λ z. s.rides _ b (ap (λ (i : ℕ). boarded_at (ride_at route i)) (sym z) ∙ sym u.1 ∙ e ∙ v.1)) (λ z. omega (arith, u.0, v.0)) k) (compared p.ride q.ride))
        (at y q b))
        (λ u. ⊎_elim
        (λ v. ⊎_elim (λ k. (s.others _ _ k b).onward (sym u.1 ∙ e ∙ v.1)) (λ k. ⊎_elim (λ z. omega (arith, u.0, v.0)) (λ z. omega (arith, u.0, v.0)) k) (compared p.ride q.ride))
        (λ v. ⊎_elim (λ k. (s.others _ _ k b).alighting (sym u.1 ∙ e ∙ v.1)) (λ k. ⊎_elim (λ z. omega (arith, u.0, v.0)) (λ z. omega (arith, u.0, v.0)) k) (compared p.ride q.ride))
        (at y q b))
        (at x p a)

-- ---- the theorem

-- ride i is good after those before it
abbrev pub GoodAt : Network → List Leg → ℕ → Type 0
GoodAt N route i = GoodRide N (take i route) (ride_at route i)

abbrev pub GoodRides : Network → List Leg → Type 0
GoodRides N route = (i : ℕ) → i < length route → GoodAt N route i

pub admissible_is : (N : Network) (route : List Leg) → Admissible N route ↔ (Within 1 (length route) most_rides × GoodRides N route)
admissible_is N route = (tells, holds)
  where
    tells : Admissible N route → Within 1 (length route) most_rides × GoodRides N route
    tells a = (
      a.few,
      λ i h. record {
        exists = a.rides i h;
        follows = λ some.
            let n = length-take-le i route (omega arith) in
            let last : length (take i route) - 1 ≡ i - 1 = omega arith in
            let next : i - 1 + 1 ≡ i = omega arith in
            let change = rw next at (a.changes (i - 1) (omega arith)) in
            rw (last, get_or-take i route (i - 1) no_ride (omega arith)) change;
        fresh = λ j k.
            let n = length-take-le i route (omega arith) in
            rw (get_or-take i route j no_ride (omega arith)) (((distinct_is route).0 a.once).others j i (omega arith) h);
      },
    )

    holds : Within 1 (length route) most_rides × GoodRides N route → Admissible N route
    holds g = record {
      few = g.0;
      rides = λ i h. (g.1 i h).exists;
      changes = λ i h.
          let n = length-take-le (i + 1) route (omega arith) in
          let last : length (take (i + 1) route) - 1 ≡ i = omega arith in
          rw (last, get_or-take (i + 1) route i no_ride (omega arith)) at ((g.1 (i + 1) h).follows (omega arith));
      once = (distinct_is route).1 (record {
        rides = λ i h e. (g.1 i h).exists.different (ap (λ (x : Station). x.number) e);
        others = λ j i k h.
            let n = length-take-le i route (omega arith) in
            rw (get_or-take i route j no_ride k) at ((g.1 i h).fresh j (omega arith));
      });
    }

-- the same, by the tests of a given route's rides
pub admissible_good : (N : Network) (route : List Leg) → Admissible N route ↔ (Within 1 (length route) most_rides × AllGood N route)
admissible_good N route = (
  λ a. let g = (admissible_is N route).0 a in (g.0, λ i h. (next_is N (take i route) (ride_at route i)).1 (g.1 i h)),
  λ g. (admissible_is N route).1 (g.0, λ i h. (next_is N (take i route) (ride_at route i)).0 (g.1 i h)),
)
