-- What each step of the search shows: a ride that is good or not, and the routes that go on from it.
use Prim.Native.Nat.{ℕ, ◌+◌, ◌-◌, ◌≤◌, ◌<◌}
use mathlib.Core.Path.{◌≡◌, refl, sym, ap, subst, ◌∙◌}
use mathlib.Core.Bool.{Bool, true, false}
use mathlib.Core.Logic.{⊎_elim}
use mathlib.Core.List.{List, [], ◌∷◌, ◌++◌}
use native.Mathlib.Omega.{arith}
use native.Mathlib.Nat.{eq-or-lt_of_le}
use lib.ListN.{length, get_or, set}
use lib.Seq.{get_or-set_same, get_or-set_other}
use lib.Dec.{ltb, eqb}
use borrow.Author.Tests.{eq-eqb, le-ltb, ltb-true, ltb-false}
use Rattle.outline.specs.declared.Station.{Station}
use Rattle.outline.specs.declared.Link.{Link}
use Rattle.outline.specs.declared.Leg.{Leg}
use Rattle.std.specs.Prelude.{Option, Some, None, IfSome, unwrap_or}
use Rattle.outline.specs.Network.{Network, joins}
use Rattle.outline.specs.Routes.{alighted_at, ride_at, is_link}
use Rattle.outline.specs.declared.Question.{Question}
use Rattle.outline.specs.Numbers.{most_rides}
use Rattle.outline.specs.Tests.{both, either, choose, Within}
use Rattle.outline.specs.Book.{network}
use Rattle.outline.specs.Questions.{Joins, Cheapest}
use Rattle.laws.specs.Rides.{AllGood}
use Rattle.laws.proofs.Tests.{true_not_false, both_holds, either_first, either_second, either_false}
use Rattle.laws.proofs.Order.{GoodLinks}
use Rattle.laws.proofs.Book.{found_link, by_link}
use Rattle.laws.proofs.Routes.{reached_is}
use Rattle.routes.specs.declared.Route.{Route}
use Rattle.routes.specs.Held.{rides_of, Sized, Held, Reached, Extended}
use Rattle.routes.proofs.Rides.{rides_length}
use Rattle.cheapest.specs.Onward.{From, Direct, Over, SomeBelow, ride_to, near_end, far_end}
use Rattle.cheapest.proofs.Onward.{good_none, good_more}
use Rattle.cheapest.proofs.Walking.{longer, final_ride, direct_from, over_from, from_splits, near_joins_far, joins_from, from_joins}
use Rattle.best.specs.declared.Fared.{Fared}
use Rattle.best.specs.declared.Best.{Best}
use Rattle.best.specs.Kept.{Sound, Improves}
use Rattle.best.proofs.Improving.{improves_none, improves_same, improves_then}
use Rattle.search.specs.Steps.{Arrived, Toward, Alighted, Ready, beyond, touches, Skip, Skips, Onto, leads_on, Passed, FirstOn}

-- ---- one ride

pub arrived_reached : (N : Network) (p : List Leg) (x y : Station) (link : ℕ) → Arrived N p x link → Reached N p (ride_to x y) (Some link)
unfolding is_link
arrived_reached N p x y link a = record {
  test = sym ((reached_is N p (ride_to x y)).1 (λ some. let f = found_link N _ _ link (a some) in record { link = link; known = f.0; joined = f.1 }));
  walked = λ some. sym (a some);
}

module _ (N : Network) (path : Route) (x y : Station) where
  pub toward : (s : Option Route) → x.company ≡ y.company → Extended N path (ride_to x y) s → Toward N path x y s
  toward (Some s) e h = record { company = e; good = h.good; held = h.held; more = h.more }
  toward None e h = λ f g. true_not_false (sym g ∙ h)

  module _ (s : Route) (w : Onto N path x y s) where
    pub step_good : AllGood N (rides_of path) → AllGood N (rides_of s)
    step_good good = subst (AllGood N) (sym w.more) (good_more N (rides_of path) (ride_to x y) good w.good)

    pub step_count : Sized path → s.count ≡ path.count + 1
    step_count sized =
        let here = rides_length path sized in
        let there = rides_length s w.held.sized in
        let more = ap length w.more in
        omega (arith, longer (rides_of path) (ride_to x y))

-- ---- to the goal

module _ (N : Network) (path : Route) (x goal : Station) where
  pub goal_reached : {b c : Best} (s : Route) → Onto N path x goal s → Improves N b c (λ R. rides_of s ≡ R) → Improves N b c (Direct N goal (rides_of path) x)
  goal_reached s w i =
      improves_same N (Direct N goal (rides_of path) x) i
      (λ R e. record { company = w.company; good = w.good; is = sym w.more ∙ e })
      (λ R d. w.more ∙ d.is)

  pub goal_missed : (b : Best) → Toward N path x goal None → Sound N b → Improves N b b (Direct N goal (rides_of path) x)
  goal_missed b n sound = improves_none N b (Direct N goal (rides_of path) x) sound (λ R d. n d.company d.good)

-- ---- to a link and over it

module _ (N : Network) (goal : Station) (path : Route) (x : Station) (left k : ℕ) where
  abbrev Near : Station
  Near = near_end (N.link k) x.company

  module _ (s : Route) (w : Onto N path x Near s) where
    -- the path with the ride to the link has alighted at its near end
    pub link_reached : k < N.links → Alighted N (rides_of s) k
    link_reached known = subst (λ (r : List Leg). Alighted N r k) (sym w.more) (record {
      some = omega (arith, longer (rides_of path) (ride_to x Near));
      known = known;
      there = subst (λ (r : Leg). alighted_at r ≡ near_end (N.link k) r.company) (sym (final_ride (rides_of path) (ride_to x Near))) (λ i. record { company = w.company i; number = Near.number });
    })

    pub link_taken : {b c : Best} → Improves N b c (From N goal left (rides_of s) (beyond N (rides_of s) k)) → Improves N b c (Over N goal left (rides_of path) x k)
    link_taken i =
        let far : beyond N (rides_of path ++ (ride_to x Near ∷ [])) k ≡ far_end (N.link k) x.company = ap (λ (r : Leg). far_end (N.link k) r.company) (final_ride (rides_of path) (ride_to x Near)) in
        improves_same N (Over N goal left (rides_of path) x k) i
        (λ R f. record {
          company = w.company;
          good = w.good;
          onward = subst (λ (y : Station). From N goal left (rides_of path ++ (ride_to x Near ∷ [])) y R) far (subst (λ (r : List Leg). From N goal left r (beyond N r k) R) w.more f);
        })
        (λ R o. subst (λ (r : List Leg). From N goal left r (beyond N r k) R) (sym w.more) (subst (λ (y : Station). From N goal left (rides_of path ++ (ride_to x Near ∷ [])) y R) (sym far) o.onward))

  pub link_missed : (b : Best) → Toward N path x Near None → Sound N b → Improves N b b (Over N goal left (rides_of path) x k)
  link_missed b n sound = improves_none N b (Over N goal left (rides_of path) x k) sound (λ R o. n o.company o.good)

-- over the link, the far end is where the path has come by it
pub link_walked : (N : Network) (p : List Leg) (k : ℕ) → GoodLinks N → Alighted N p k → Arrived N p (beyond N p k) k
link_walked N p k good a some = (by_link N (alighted_at (ride_at p (length p - 1))) (beyond N p k) good k).1 (a.known, subst (λ (y : Station). joins (N.link k) y (beyond N p k) ≡ true) (sym a.there) (near_joins_far (N.link k) (ride_at p (length p - 1)).company))

-- ---- links that lead on

pub passed_more : (P : ℕ → Type 0) (from k : ℕ) → ((j : ℕ) → from ≤ j → j < k → P j) → P k → (j : ℕ) → from ≤ j → j < k + 1 → P j
passed_more P from k p q j h l =
    let le : j ≤ k = omega arith in
    ⊎_elim (λ e. subst P (sym e) q) (λ m. p j h m) (eq-or-lt_of_le le)

pub passed_then : (P : ℕ → Type 0) (from k r : ℕ) → ((j : ℕ) → from ≤ j → j < k → P j) → ((j : ℕ) → k ≤ j → j < r → P j) → (j : ℕ) → from ≤ j → j < r → P j
passed_then P from k r p q j h l = go (ltb j k) refl
  where
    go : (t : Bool) → ltb j k ≡ t → P j
    go true e = p j h (ltb-true _ _ e)
    go false e = q j (ltb-false _ _ e) l

-- a link without an end in the goal's company does not lead there by one ride
untouched : (l : Link) (company : ℕ) (goal : Station) (left : ℕ) → left ≤ 2 → touches l goal.company ≡ false → leads_on l company goal left ≡ false
unfolding leads_on touches far_end choose both either
untouched l company goal left few none = rw (le-ltb 2 left few) (go (eqb (near_end l company).company company) (eqb l.one.company company))
  where
    ends : (eqb l.one.company goal.company ≡ false) × (eqb l.other.company goal.company ≡ false)
    ends = either_false (eqb l.one.company goal.company) (eqb l.other.company goal.company) none

    go : (t u : Bool) → both t (either false (eqb (choose u l.other l.one).company goal.company)) ≡ false
    go false u = refl
    go true true = ends.1
    go true false = ends.0

-- from where to look on, and that no link before it leads on
pub skip_later : (N : Network) (goal : Station) (skips : List ℕ) → Skips N goal.company skips → (left k r : ℕ) → k ≤ N.links → r ≡ choose (ltb 2 left) k (get_or skips k 0)
    → (k ≤ r) × (r ≤ N.links) × ((company j : ℕ) → k ≤ j → j < r → leads_on (N.link j) company goal left ≡ false)
unfolding choose
skip_later N goal skips s left k r known e = go (ltb 2 left) refl e
  where
    go : (t : Bool) → ltb 2 left ≡ t → r ≡ choose t k (get_or skips k 0) → (k ≤ r) × (r ≤ N.links) × ((company j : ℕ) → k ≤ j → j < r → leads_on (N.link j) company goal left ≡ false)
    go true f same = (omega arith, omega arith, λ company j h l. absurd (omega arith))
    go false f same =
        let n = s.next k known in
        (omega (arith, n.later), omega (arith, n.few), λ company j h l. untouched (N.link j) company goal left (ltb-false 2 left f) (n.passed j h (omega arith)))

pub skip_more : (N : Network) (company k next r : ℕ) → k < N.links → Skip N company (k + 1) next → r ≡ choose (touches (N.link k) company) k next → Skip N company k r
unfolding choose
skip_more N company k next r known s e = go (touches (N.link k) company) refl e
  where
    go : (t : Bool) → touches (N.link k) company ≡ t → r ≡ choose t k next → Skip N company k r
    go true f same = record { later = omega arith; few = omega arith; passed = λ j h l. absurd (omega arith) }
    go false f same = record {
      later = omega (arith, s.later);
      few = omega (arith, s.few);
      passed = λ j h l. ⊎_elim (λ q. subst (λ (i : ℕ). touches (N.link i) company ≡ false) q f) (λ m. s.passed j (omega arith) (omega arith)) (eq-or-lt_of_le h);
    }

-- one more of the skips is set, the last first
pub skips_set : (N : Network) (company n : ℕ) (s : List ℕ) (k next : ℕ) → k < length s → ((j : ℕ) → k + 1 ≤ j → j ≤ n → Skip N company j (get_or s j 0)) → Skip N company k next
    → (j : ℕ) → k ≤ j → j ≤ n → Skip N company j (get_or (set s k next) j 0)
skips_set N company n s k next room before new j h l =
    ⊎_elim (λ e. subst (λ (i : ℕ). Skip N company i (get_or (set s k next) i 0)) e (rw (get_or-set_same s k next 0 room) new))
    (λ m. rw (get_or-set_other s k j next 0 (λ e. omega arith)) (before j (omega arith) l))
    (eq-or-lt_of_le h)

module _ (N : Network) (goal : Station) (p : List Leg) (x : Station) (left : ℕ) (links : GoodLinks N) (two : 2 ≤ left) where
  -- a link that a route goes over leads on
  over_leads : (k : ℕ) (R : List Leg) → Over N goal (left - 1) p x k R → leads_on (N.link k) x.company goal left ≡ true
  unfolding leads_on
  over_leads k R o = both_holds _ _ (eq-eqb _ _ (sym o.company)) (go (ltb 2 left) refl)
    where
      go : (t : Bool) → ltb 2 left ≡ t → either t (eqb (far_end (N.link k) x.company).company goal.company) ≡ true
      go true e = either_first _ _ refl
      go false e =
          let few = ltb-false 2 left e in
          either_second _ _ (eq-eqb _ _ (⊎_elim (λ d. d.company) (λ s. absurd (let h = s.holds.onward in omega (arith, h.more, h.few))) (from_splits N goal _ _ R (left - 1) links o.onward)))

  -- no route goes over the links that are passed
  links_passed : {b c : Best} (from r : ℕ) → from ≤ r → Passed N x.company goal left from r → Improves N b c (λ R. SomeBelow from (λ k. Over N goal (left - 1) p x k R))
      → Improves N b c (λ R. SomeBelow r (λ k. Over N goal (left - 1) p x k R))
  links_passed from r later passed i =
      improves_same N (λ R. SomeBelow r (λ k. Over N goal (left - 1) p x k R)) i
      (λ R s. record { at = s.at; below = omega (arith, s.below, later); holds = s.holds })
      (λ R s. record { at = s.at; below = before R s (ltb s.at from) refl; holds = s.holds })
    where
      before : (R : List Leg) (s : SomeBelow r (λ k. Over N goal (left - 1) p x k R)) (t : Bool) → ltb s.at from ≡ t → s.at < from
      before R s true e = ltb-true _ _ e
      before R s false e = absurd (true_not_false (sym (over_leads s.at R s.holds) ∙ passed s.at (ltb-false _ _ e) s.below))

  -- the first link that leads on is the next to try, or all are tried
  pub next_passed : {b c : Best} (from : ℕ) → from ≤ N.links → (r : Option ℕ) → FirstOn N x.company goal left from r → Improves N b c (λ R. SomeBelow from (λ k. Over N goal (left - 1) p x k R))
      → IfSome r (λ k. k < N.links) × Improves N b c (λ R. SomeBelow (unwrap_or r N.links) (λ k. Over N goal (left - 1) p x k R))
  next_passed from few (Some r) next i = (next.known, links_passed from r next.later next.passed i)
  next_passed from few None passed i = (tt, links_passed from N.links few passed i)

-- ---- all of a step by rides

module _ (N : Network) (goal : Station) (p : List Leg) (x : Station) where
  -- with one ride left only the goal is tried
  pub last_step : {b c : Best} (left : ℕ) → GoodLinks N → AllGood N p → 1 ≤ left → left < 2 → Improves N b c (Direct N goal p x) → Improves N b c (From N goal left p x)
  last_step left links good some few i =
      improves_same N (From N goal left p x) i (λ R d. direct_from N goal p x R left some good d)
      (λ R f. ⊎_elim (λ d. d) (λ o. absurd (let h = o.holds.onward in omega (arith, h.more, h.few))) (from_splits N goal p x R left links f))

  pub whole_step : {b c d : Best} (left : ℕ) → GoodLinks N → AllGood N p → 1 ≤ left → Improves N b c (Direct N goal p x)
      → Improves N c d (λ R. SomeBelow N.links (λ k. Over N goal (left - 1) p x k R)) → Improves N b d (From N goal left p x)
  whole_step left links good some i j =
      improves_then N (From N goal left p x) i j
      (λ R d. direct_from N goal p x R left some good d)
      (λ R o. let e : left - 1 + 1 ≡ left = omega arith in subst (λ (n : ℕ). From N goal n p x R) e (over_from N goal p x R (left - 1) o.at o.holds))
      (λ R f. from_splits N goal p x R left links f)

-- ---- all of a search

-- what a search may begin with: no ride, and nothing held
pub begin : (b : List ℕ) (path : Route) (left : ℕ) (best : Best) → Held (network b) path → rides_of path ≡ [] → Within 1 left most_rides → best.found ≡ None
    → Ready b path left best
begin b path left best held none limit new = record {
  held = held;
  good = subst (AllGood (network b)) (sym none) (good_none (network b));
  some = limit.from;
  room = omega (arith, rides_length path held.sized, ap length none, limit.to);
  sound = rw new tt;
}

module _ (N : Network) (q : Question) (b c : Best) (p : List Leg) (left : ℕ) (none : p ≡ []) (all : left ≡ q.limit)
    (i : Improves N b c (From N q.to left p q.from)) where
  searched : Improves N b c (From N q.to q.limit [] q.from)
  searched = subst (λ (r : List Leg). Improves N b c (From N q.to q.limit r q.from)) none (subst (λ (n : ℕ). Improves N b c (From N q.to n p q.from)) all i)

  pub cheapest_found : (p : Fared) → b.found ≡ None → c.found ≡ Some p → q.limit ≤ most_rides → Cheapest N q (rides_of p.route)
  cheapest_found p new found most = record {
    joins = from_joins N q (rides_of p.route) most (⊎_elim (λ h. absurd (rw new at h)) (λ f. f) (searched.origin (rides_of p.route) (rw found refl)));
    first = λ t j. rw found at (searched.beats t (joins_from N q t j));
  }

  pub none_found : c.found ≡ None → (t : List Leg) → Joins N q t → ⊥
  none_found missed t j = rw missed at (searched.beats t (joins_from N q t j))
