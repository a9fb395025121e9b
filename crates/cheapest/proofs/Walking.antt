-- Where a route goes on from the rides that a search has come by: to the goal, or to a link and over it.
use Prim.Native.Nat.{ℕ, suc, ◌+◌, ◌-◌, ◌≤◌, ◌<◌}
use mathlib.Core.Path.{◌≡◌, refl, sym, ap, subst, ◌∙◌}
use mathlib.Core.Bool.{Bool, true, false}
use mathlib.Core.Logic.{◌⊎◌, inl, inr, ⊎_elim}
use mathlib.Core.List.{List, [], ◌∷◌, ◌++◌}
use native.Mathlib.Nat.{eq-or-lt_of_le}
use native.Mathlib.Omega.{arith}
use lib.ListN.{length, take, length-append}
use lib.Seq.{take_all, take-take, get_or-take, take-append_seam, get_or-append_seam}
use lib.Dec.{eqb}
use borrow.Author.Tests.{eq-eqb, ne_eqb}
use Rattle.outline.specs.declared.Station.{Station}
use Rattle.outline.specs.declared.Link.{Link}
use Rattle.outline.specs.declared.Leg.{Leg}
use Rattle.outline.specs.Tests.{choose}
use Rattle.outline.specs.Network.{Network, joins, leads}
use Rattle.outline.specs.Routes.{no_ride, ride_at, boarded_at, alighted_at, good_next, Change}
use Rattle.outline.specs.Questions.{end_of, Joins}
use Rattle.laws.proofs.Tests.{both_holds, either_first, either_second}
use Rattle.laws.proofs.Judging.{same_station_holds}
use Rattle.laws.proofs.Order.{GoodLinks}
use Rattle.laws.proofs.Book.{joins_true}
use Rattle.laws.proofs.Routes.{next_is}
use Rattle.laws.proofs.Admissible.{admissible_good}
use Rattle.outline.specs.Numbers.{most_rides}
use Rattle.outline.specs.declared.Question.{Question}
use Rattle.laws.specs.Rides.{AllGood}
use Rattle.cheapest.specs.Onward.{From, Direct, Over, SomeBelow, ride_to, near_end, far_end}
use Rattle.cheapest.proofs.Onward.{good_more, one_more}

-- ---- one more ride at the end

module _ (p : List Leg) (l : Leg) where
  pub longer : length (p ++ (l ∷ [])) ≡ length p + 1
  longer = length-append p (l ∷ [])

  pub last_ride : ride_at (p ++ (l ∷ [])) (length p) ≡ l
  last_ride = get_or-append_seam p l [] no_ride

  pub final_ride : ride_at (p ++ (l ∷ [])) (length (p ++ (l ∷ [])) - 1) ≡ l
  final_ride =
      let n : length (p ++ (l ∷ [])) - 1 ≡ length p = omega (arith, longer) in
      ap (ride_at (p ++ (l ∷ []))) n ∙ last_ride

  pub end_of_lem : end_of (p ++ (l ∷ [])) ≡ alighted_at l
  end_of_lem = ap alighted_at final_ride

-- ---- the two ends of a link

module _ (k : Link) (y z : Station) where
  -- a link between y and z has y at its near end, seen from y's company, and z at its far end
  pub ends_are : k.one.company < k.other.company → joins k y z ≡ true → (near_end k y.company ≡ y) × (far_end k y.company ≡ z)
  unfolding near_end far_end choose
  ends_are ordered j = ⊎_elim forth back (joins_true k y z j)
    where
      forth : k ≡ record { one = y; other = z } → (near_end k y.company ≡ y) × (far_end k y.company ≡ z)
      forth e = rw (e, eq-eqb y.company y.company refl) (refl, refl)

      back : k ≡ record { one = z; other = y } → (near_end k y.company ≡ y) × (far_end k y.company ≡ z)
      back e =
          let o : z.company < y.company = rw e at ordered in
          rw (e, ne_eqb z.company y.company (λ s. omega arith)) (refl, refl)

pub near_joins_far : (k : Link) (c : ℕ) → joins k (near_end k c) (far_end k c) ≡ true
unfolding near_end far_end choose joins leads
near_joins_far k c = go (eqb k.one.company c)
  where
    go : (t : Bool) → joins k (choose t k.one k.other) (choose t k.other k.one) ≡ true
    go true = either_first _ _ (both_holds _ _ (same_station_holds _ _ refl) (same_station_holds _ _ refl))
    go false = either_second _ _ (both_holds _ _ (same_station_holds _ _ refl) (same_station_holds _ _ refl))

-- ---- what goes on from the rides p

module _ (N : Network) (goal : Station) (p : List Leg) (x : Station) (route : List Leg) where
  pub direct_from : (left : ℕ) → 1 ≤ left → AllGood N p → Direct N goal p x route → From N goal left p x route
  direct_from left some good d =
      subst (From N goal left p x) d.is (record {
        good = good_more N p (ride_to x goal) good d.good;
        begins = take-append_seam p (ride_to x goal ∷ []);
        more = omega (arith, longer p (ride_to x goal));
        few = omega (arith, longer p (ride_to x goal));
        boards = ap boarded_at (last_ride p (ride_to x goal));
        ends = end_of_lem p (ride_to x goal) ∙ (λ i. record { company = d.company i; number = goal.number });
      })

  pub over_from : (left k : ℕ) → Over N goal left p x k route → From N goal (left + 1) p x route
  over_from left k o =
      let l = ride_to x (near_end (N.link k) x.company) in
      let f = o.onward in
      let long = longer p l in
      let le : length p ≤ length (p ++ (l ∷ [])) = omega arith in
      let lt : length p < length (p ++ (l ∷ [])) = omega arith in
      record {
        good = f.good;
        begins = sym (take-take (length p) (length (p ++ (l ∷ []))) route le) ∙ ap (take (length p)) f.begins ∙ take-append_seam p (l ∷ []);
        more = omega (arith, f.more);
        few = omega (arith, f.few);
        boards = ap boarded_at (sym (get_or-take (length (p ++ (l ∷ []))) route (length p) no_ride lt) ∙ ap (λ (s : List Leg). ride_at s (length p)) f.begins ∙ last_ride p l);
        ends = f.ends;
      }

  module _ (left : ℕ) (f : From N goal left p x route) where
    next : Leg
    next = ride_at route (length p)

    front : take (suc (length p)) route ≡ p ++ (next ∷ [])
    unfolding next
    front = sym (one_more route (length p) f.more) ∙ ap (λ (s : List Leg). s ++ (next ∷ [])) f.begins

    next_good : good_next N p next ≡ true
    unfolding next
    next_good = subst (λ (s : List Leg). good_next N s next ≡ true) f.begins (f.good (length p) f.more)

    same_company : next.company ≡ x.company
    unfolding next
    same_company = ap (λ (s : Station). s.company) f.boards

    -- the next ride is from x to where it alights
    next_is_from : next ≡ ride_to x (alighted_at next)
    unfolding next
    next_is_from = λ i. record { company = (f.boards i).company; boarding = (f.boards i).number; alighting = next.alighting }

    ends_here : length route ≡ length p + 1 → Direct N goal p x route
    ends_here e =
        let whole : p ++ (next ∷ []) ≡ route = sym front ∙ take_all (suc (length p)) route (omega arith) in
        let there : alighted_at next ≡ goal = sym (end_of_lem p next) ∙ ap end_of whole ∙ f.ends in
        let ride : next ≡ ride_to x goal = next_is_from ∙ ap (ride_to x) there in
        record {
          company = sym same_company ∙ ap (λ (s : Station). s.company) there;
          good = subst (λ (l : Leg). good_next N p l ≡ true) ride next_good;
          is = subst (λ (l : Leg). p ++ (l ∷ []) ≡ route) ride whole;
        }

    goes_on : GoodLinks N → length p + 1 < length route → SomeBelow N.links (λ k. Over N goal (left - 1) p x k route)
    goes_on links more =
        let long : length (p ++ (next ∷ [])) ≡ suc (length p) = omega (arith, longer p next) in
        let m : suc (length p) < length route = omega arith in
        let after = ride_at route (suc (length p)) in
        let good : good_next N (p ++ (next ∷ [])) after ≡ true = subst (λ (s : List Leg). good_next N s after ≡ true) front (f.good (suc (length p)) m) in
        let change : Change N (alighted_at next) (boarded_at after) = subst (λ (y : Station). Change N y (boarded_at after)) (end_of_lem p next) (((next_is N (p ++ (next ∷ [])) after).0 good).follows (omega arith)) in
        let k = change.link in
        let ends = ends_are (N.link k) (alighted_at next) (boarded_at after) (links k change.known).0.ordered change.joined in
        let near : near_end (N.link k) x.company ≡ alighted_at next = subst (λ (c : ℕ). near_end (N.link k) c ≡ alighted_at next) same_company ends.0 in
        let far : far_end (N.link k) x.company ≡ boarded_at after = subst (λ (c : ℕ). far_end (N.link k) c ≡ boarded_at after) same_company ends.1 in
        let ride : ride_to x (near_end (N.link k) x.company) ≡ next = ap (ride_to x) near ∙ sym next_is_from in
        let onward : From N goal (left - 1) (p ++ (next ∷ [])) (boarded_at after) route = record {
          good = f.good;
          begins = ap (λ (n : ℕ). take n route) long ∙ front;
          more = omega arith;
          few = omega (arith, f.few);
          boards = ap (λ (n : ℕ). boarded_at (ride_at route n)) long;
          ends = f.ends;
        } in
        record {
          at = k;
          below = change.known;
          holds = record {
            company = sym same_company ∙ ap (λ (s : Station). s.company) (sym near);
            good = subst (λ (l : Leg). good_next N p l ≡ true) (sym ride) next_good;
            onward = subst (λ (l : Leg). From N goal (left - 1) (p ++ (l ∷ [])) (far_end (N.link k) x.company) route) (sym ride)
                (subst (λ (y : Station). From N goal (left - 1) (p ++ (next ∷ [])) y route) (sym far) onward);
          };
        }

  pub from_splits : (left : ℕ) → GoodLinks N → From N goal left p x route → Direct N goal p x route ⊎ SomeBelow N.links (λ k. Over N goal (left - 1) p x k route)
  from_splits left links f = ⊎_elim (λ e. inl (ends_here left f (sym e))) (λ l. inr (goes_on left f links l)) (eq-or-lt_of_le (let m = f.more in omega arith))

-- ---- the routes that a question asks for

module _ (N : Network) (q : Question) (route : List Leg) where
  pub joins_from : Joins N q route → From N q.to q.limit [] q.from route
  joins_from j =
      let g = (admissible_good N route).0 j.admissible in
      record { good = g.1; begins = refl; more = g.0.from; few = omega (arith, j.short); boards = j.from; ends = j.to }

  pub from_joins : q.limit ≤ most_rides → From N q.to q.limit [] q.from route → Joins N q route
  from_joins most f = record {
    admissible = (admissible_good N route).1 (record { from = f.more; to = omega (arith, f.few) }, f.good);
    from = f.boards;
    to = f.ends;
    short = omega (arith, f.few);
  }
