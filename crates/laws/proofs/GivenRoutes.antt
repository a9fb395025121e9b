-- A given route is refused with 14 exactly where its bytes are not those of an admissible route, and at its first bad ride.
use Prim.Native.Nat.{ℕ, ◌/◌}
use Rattle.std.proofs.Common.{Ok, Err}
use mathlib.Core.Path.{◌≡◌, refl, sym, ap, ◌∙◌}
use mathlib.Core.List.{List}
use mathlib.Core.Logic.{◌⊎◌, inl, inr, ⊎_elim, ◌↔◌}
use native.Mathlib.Omega.{arith}
use lib.ListN.{length, take}
use Rattle.outline.specs.declared.Leg.{Leg}
use Rattle.outline.specs.declared.Refusal.{Refusal}
use Rattle.outline.specs.declared.Refusal.TheVariants.{WrongLength, UnknownLayout, OutsideLimits, BadContents, BadStations, BadEntry, BadLink, BadRule, UnknownStation, SameStation, BadLimit, NoRoute, NoRoom, BadRide}
use Rattle.outline.specs.Refusals.{number_of, first_below, Judged}
use Rattle.outline.specs.Network.{Network}
use Rattle.outline.specs.Routes.{ride_at, Admissible, bytes_of, route_of, ride_check, route_check}
use Rattle.laws.proofs.Firsts.{refused_not_good, demand_good, demand_holds, first_good, first_holds}
use Rattle.laws.proofs.Named.{FirstBad, Names, names_good, names_demand, names_first, demand_refused, first_refused_with}
use Rattle.laws.proofs.Routes.{next_is}
use Rattle.laws.proofs.Admissible.{GoodAt, GoodRides, admissible_is}
use Rattle.laws.proofs.Given.{Whole, whole_is, route_length, bytes_length, thirds, route_of_bytes, bytes_of_route}

-- the bytes are those of a route, and it is admissible
pub record AdmissibleBytes (N : Network) (bytes : List ℕ) : Type 0 where
  pub route : List Leg
  pub is : bytes_of route ≡ bytes
  pub admissible : Admissible N route

ride_is : (N : Network) (route : List Leg) (i : ℕ) → (ride_check N route i ≡ Ok tt) ↔ GoodAt N route i
unfolding ride_check
ride_is N route i = (
  λ e. (next_is N (take i route) (ride_at route i)).0 (demand_good _ _ _ e).0,
  λ g. demand_holds _ _ _ ((next_is N (take i route) (ride_at route i)).1 g),
)

rides_are : (N : Network) (route : List Leg) → (first_below (ride_check N route) (length route) ≡ Ok tt) ↔ GoodRides N route
rides_are N route = (
  λ e i h. (ride_is N route i).0 (first_good (ride_check N route) _ e i h),
  λ g. first_holds (ride_check N route) _ (λ i h. (ride_is N route i).1 (g i h)),
)

-- good, exactly where the bytes are those of an admissible route
pub route_good : (N : Network) (bytes : List ℕ) → (route_check N bytes ≡ Ok tt) ↔ AdmissibleBytes N bytes
unfolding route_check
route_good N bytes = (tells, holds)
  where
    tells : route_check N bytes ≡ Ok tt → AdmissibleBytes N bytes
    tells e =
        let s = demand_good _ _ _ e in
        let w = (whole_is _).0 s.0 in
        record {
          route = route_of bytes;
          is = bytes_of_route bytes w;
          admissible = (admissible_is N (route_of bytes)).1 (rw (route_length bytes) w.few, (rides_are N (route_of bytes)).0 s.1);
        }

    good : (route : List Leg) → Admissible N route → route_check N (bytes_of route) ≡ Ok tt
    good route a =
        let g = (admissible_is N route).0 a in
        let n = bytes_length route in
        let third : length (bytes_of route) / 3 ≡ length route = ap (λ (n : ℕ). n / 3) n ∙ thirds (length route) in
        let w : Whole (length (bytes_of route)) = record { exact = rw third n; few = rw third g.0 } in
        demand_holds _ _ _ ((whole_is _).1 w) ∙ rw (route_of_bytes route) ((rides_are N route).1 g.1)

    holds : AdmissibleBytes N bytes → route_check N bytes ≡ Ok tt
    holds a = rw a.is at (good a.route a.admissible)

-- a given route is refused with nothing but 14
pub only_bad_rides : (N : Network) (bytes : List ℕ) → Names (λ x. number_of x ≡ 14) (route_check N bytes)
unfolding route_check ride_check
only_bad_rides N bytes = names_demand _ _ (BadRide 0) _ refl (names_first _ (ride_check N (route_of bytes)) _ (λ k. names_demand _ _ (BadRide k) _ refl (names_good _)))

names_own : (N : Network) (route : List Leg) (i : ℕ) → Names (λ x. x ≡ BadRide i) (ride_check N route i)
unfolding ride_check
names_own N route i = names_demand _ _ (BadRide i) _ refl (names_good _)

same : {j k : ℕ} → BadRide j ≡ BadRide k → j ≡ k
same e = cc

-- "a length that isn't 3, 6, 9 or 12 is place 0", and else the first bad ride
abbrev pub BadAt : Network → List ℕ → ℕ → Type 0
BadAt N bytes k =
    ((Whole (length bytes) → ⊥) × (0 ≡ k))
    ⊎ (Whole (length bytes) × FirstBad (GoodAt N (route_of bytes)) (length (route_of bytes)) k)

pub bad_ride : (N : Network) (bytes : List ℕ) (k : ℕ) → (route_check N bytes ≡ Err (BadRide k)) ↔ BadAt N bytes k
unfolding route_check
bad_ride N bytes k = (tells, holds)
  where
    outer : (route_check N bytes ≡ Err (BadRide k))
        ↔ (((Whole (length bytes) → ⊥) × (BadRide 0 ≡ BadRide k)) ⊎ (Whole (length bytes) × (first_below (ride_check N (route_of bytes)) (length (route_of bytes)) ≡ Err (BadRide k))))
    outer = demand_refused _ (BadRide 0) _ (BadRide k) (whole_is (length bytes))

    inner : (first_below (ride_check N (route_of bytes)) (length (route_of bytes)) ≡ Err (BadRide k)) ↔ FirstBad (GoodAt N (route_of bytes)) (length (route_of bytes)) k
    inner = first_refused_with (GoodAt N (route_of bytes)) (ride_check N (route_of bytes)) BadRide (length (route_of bytes)) k (names_own N (route_of bytes)) (λ j. refl) (ride_is N (route_of bytes))

    tells : route_check N bytes ≡ Err (BadRide k) → BadAt N bytes k
    tells e = ⊎_elim (λ f. inl (f.0, same f.1)) (λ h. inr (h.0, inner.0 h.1)) (outer.0 e)

    holds : BadAt N bytes k → route_check N bytes ≡ Err (BadRide k)
    holds (inl f) = outer.1 (inl (f.0, ap BadRide f.1))
    holds (inr h) = outer.1 (inr (h.0, inner.1 h.1))

-- a refusal with number 14 is that of a bad ride
bad : (x : Refusal) → number_of x ≡ 14 → (k : ℕ) × (x ≡ BadRide k)
bad WrongLength e = absurd (omega arith)
bad UnknownLayout e = absurd (omega arith)
bad OutsideLimits e = absurd (omega arith)
bad (BadContents n) e = absurd (omega arith)
bad (BadStations n) e = absurd (omega arith)
bad (BadEntry n) e = absurd (omega arith)
bad (BadLink n) e = absurd (omega arith)
bad (BadRule n) e = absurd (omega arith)
bad (UnknownStation n) e = absurd (omega arith)
bad SameStation e = absurd (omega arith)
bad BadLimit e = absurd (omega arith)
bad NoRoute e = absurd (omega arith)
bad NoRoom e = absurd (omega arith)
bad (BadRide k) e = (k, refl)

-- a given route is admissible, or refused at one bad ride
pub route_judged : (N : Network) (bytes : List ℕ) → AdmissibleBytes N bytes ⊎ ((k : ℕ) × (route_check N bytes ≡ Err (BadRide k)) × (AdmissibleBytes N bytes → ⊥))
route_judged N bytes = go (route_check N bytes) refl
  where
    go : (a : Judged) → route_check N bytes ≡ a → AdmissibleBytes N bytes ⊎ ((k : ℕ) × (route_check N bytes ≡ Err (BadRide k)) × (AdmissibleBytes N bytes → ⊥))
    go (Ok _) e = inl ((route_good N bytes).0 e)
    go (Err x) e = let k = bad x (only_bad_rides N bytes x e) in inr (k.0, e ∙ ap Err k.1, λ a. refused_not_good (sym e ∙ (route_good N bytes).1 a))
