-- What a good ride is: the tests of a given route's ride hold exactly where the ride exists, is reached and brings no station already met.
use Prim.Native.Nat.{ℕ, ◌-◌, ◌<◌}
use mathlib.Core.Path.{◌≡◌, refl, sym, ap, ◌∙◌}
use mathlib.Core.Bool.{Bool, true, false, not}
use mathlib.Core.List.{List}
use mathlib.Core.Logic.{◌↔◌, ⊎_elim}
use native.Mathlib.Omega.{arith}
use lib.ListN.{length}
use lib.Dec.{eqb}
use borrow.Author.Tests.{ltb-true, lt-ltb, eqb-true, eqb-false, ne_eqb, not-true}
use Rattle.outline.specs.declared.Station.{Station}
use Rattle.outline.specs.declared.Leg.{Leg}
use Rattle.std.specs.Prelude.{Option, Some, None}
use Rattle.outline.specs.Tests.{either}
use Rattle.outline.specs.Network.{Network, link_between}
use Rattle.outline.specs.Routes.{boarded_at, alighted_at, Exists, Change, ride_at, is_sold, exists, is_link, reached, met, meets, repeats, good_next}
use Rattle.laws.proofs.Tests.{true_not_false, both_true, both_holds, either_true, either_false, some_false, none_holds}
use Rattle.laws.proofs.Judging.{other_station_lem}
use Rattle.laws.proofs.Book.{no_link_lem, found_link}

-- ---- a ride exists

sold_is : (e : Option ℕ) → (is_sold e ≡ true) ↔ (e ≡ None → ⊥)
unfolding is_sold
sold_is None = (λ t. absurd (true_not_false (sym t)), λ n. absurd (n refl))
sold_is (Some yen) = (λ t e. let z : ◌≡◌ {A = ℕ} 0 1 = cc in omega arith, λ n. refl)

pub exists_is : (N : Network) (l : Leg) → (exists N l ≡ true) ↔ Exists N l
unfolding exists
exists_is N l = (tells, holds)
  where
    tells : exists N l ≡ true → Exists N l
    tells e =
        let s1 = both_true _ _ e in
        let s2 = both_true _ _ s1.1 in
        let s3 = both_true _ _ s2.1 in
        let s4 = both_true _ _ s3.1 in
        record {
          company = ltb-true _ _ s1.0;
          boarding = ltb-true _ _ s2.0;
          alighting = ltb-true _ _ s3.0;
          different = eqb-false _ _ (not-true _ s4.0);
          sold = (sold_is _).0 s4.1;
        }

    holds : Exists N l → exists N l ≡ true
    holds h =
        both_holds _ _ (lt-ltb _ _ h.company)
        (both_holds _ _ (lt-ltb _ _ h.boarding)
        (both_holds _ _ (lt-ltb _ _ h.alighting)
        (both_holds _ _ (ap not (ne_eqb _ _ h.different)) ((sold_is _).1 h.sold))))

-- ---- a ride is reached

link_is : (N : Network) (x y : Station) → (is_link (link_between N x y) ≡ true) ↔ Change N x y
unfolding is_link
link_is N x y = (go (link_between N x y) refl, back (link_between N x y) refl)
  where
    go : (a : Option ℕ) → link_between N x y ≡ a → is_link a ≡ true → Change N x y
    go (Some k) e t = let f = found_link N x y k e in record { link = k; known = f.0; joined = f.1 }
    go None e t = absurd (true_not_false (sym t))

    back : (a : Option ℕ) → link_between N x y ≡ a → Change N x y → is_link a ≡ true
    back (Some k) e c = refl
    back None e c = absurd (true_not_false (sym c.joined ∙ (no_link_lem N x y).0 e c.link c.known))

-- where there is a ride before, a change leads from it to ride l
abbrev pub Follows : Network → List Leg → Leg → Type 0
Follows N before l = 0 < length before → Change N (alighted_at (ride_at before (length before - 1))) (boarded_at l)

pub reached_is : (N : Network) (before : List Leg) (l : Leg) → (reached N before l ≡ true) ↔ Follows N before l
unfolding reached either
reached_is N before l = (tells, holds)
  where
    tells : reached N before l ≡ true → Follows N before l
    tells e some = ⊎_elim (λ z. let none = eqb-true (length before) 0 z in absurd (omega arith)) (λ t. (link_is N _ _).0 t) (either_true _ _ e)

    holds : Follows N before l → reached N before l ≡ true
    holds f = go (eqb (length before) 0) refl
      where
        go : (t : Bool) → eqb (length before) 0 ≡ t → either t (is_link (link_between N (alighted_at (ride_at before (length before - 1))) (boarded_at l))) ≡ true
        go true e = refl
        go false e = let some = eqb-false (length before) 0 e in (link_is N _ _).1 (f (omega arith))

-- ---- a ride brings no station already met

-- two rides have no station in common
pub record Disjoint (a b : Leg) : Type 0 where
  pub boarding : boarded_at a ≡ boarded_at b → ⊥
  pub alighting : alighted_at a ≡ alighted_at b → ⊥
  pub onward : alighted_at a ≡ boarded_at b → ⊥
  pub back : boarded_at a ≡ alighted_at b → ⊥

meets_is : (a b : Leg) → (meets a b ≡ false) ↔ Disjoint a b
unfolding meets met either
meets_is a b = (tells, holds)
  where
    tells : meets a b ≡ false → Disjoint a b
    tells e =
        let p = either_false _ _ e in
        let q = either_false _ _ p.0 in
        let r = either_false _ _ p.1 in
        record { boarding = (other_station_lem _ _).0 q.0; onward = (other_station_lem _ _).0 q.1; back = (other_station_lem _ _).0 r.0; alighting = (other_station_lem _ _).0 r.1 }

    holds : Disjoint a b → meets a b ≡ false
    holds d = rw ((other_station_lem _ _).1 d.boarding, (other_station_lem _ _).1 d.onward, (other_station_lem _ _).1 d.back, (other_station_lem _ _).1 d.alighting)

abbrev pub Fresh : List Leg → Leg → Type 0
Fresh before l = (j : ℕ) → j < length before → Disjoint (ride_at before j) l

pub fresh_is : (before : List Leg) (l : Leg) → (repeats before l ≡ false) ↔ Fresh before l
unfolding repeats
fresh_is before l = (
  λ e j h. (meets_is _ _).0 (some_false (λ (j : ℕ). meets (ride_at before j) l) _ e j h),
  λ f. none_holds (λ (j : ℕ). meets (ride_at before j) l) _ (λ j h. (meets_is _ _).1 (f j h)),
)

-- ---- a good ride

pub record GoodRide (N : Network) (before : List Leg) (l : Leg) : Type 0 where
  pub exists : Exists N l
  pub follows : Follows N before l
  pub fresh : Fresh before l

pub next_is : (N : Network) (before : List Leg) (l : Leg) → (good_next N before l ≡ true) ↔ GoodRide N before l
unfolding good_next
next_is N before l = (tells, holds)
  where
    tells : good_next N before l ≡ true → GoodRide N before l
    tells e =
        let p = both_true _ _ e in
        let q = both_true _ _ p.1 in
        record { exists = (exists_is N l).0 p.0; follows = (reached_is N before l).0 q.0; fresh = (fresh_is before l).0 (not-true _ q.1) }

    holds : GoodRide N before l → good_next N before l ≡ true
    holds g = both_holds _ _ ((exists_is N l).1 g.exists) (both_holds _ _ ((reached_is N before l).1 g.follows) (ap not ((fresh_is before l).1 g.fresh)))
