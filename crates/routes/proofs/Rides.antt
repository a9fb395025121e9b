-- The rides of a route as it is held, and one more ride.
use Prim.Native.Nat.{ℕ, ◌+◌, ◌-◌, ◌<◌}
use mathlib.Core.Path.{◌≡◌, refl, sym, ap, ◌∙◌}
use mathlib.Core.Bool.{Bool, true, false}
use mathlib.Core.List.{List, [], ◌∷◌, ◌++◌}
use native.Mathlib.Numerals.{add-one}
use native.Mathlib.Omega.{arith}
use lib.ListN.{length, get_or, take, set, length-set}
use lib.Seq.{length-take-le, get_or-take, get_or-set_same, get_or-set_other, take-suc-set}
use borrow.Author.Count.{below_more}
use borrow.Author.Tests.{eq-eqb, ne_eqb, not-true}
use Rattle.outline.specs.declared.Leg.{Leg}
use Rattle.std.specs.Prelude.{Option, Some, None}
use Rattle.outline.specs.Tests.{both, either, choose}
use Rattle.outline.specs.Network.{Network, link_between}
use Rattle.outline.specs.Routes.{boarded_at, alighted_at, entry_for, Exists, no_ride, ride_at, is_sold, exists, is_link, link_after, reached, repeats, good_next}
use Rattle.routes.specs.declared.Route.{Route}
use Rattle.routes.specs.Held.{rides_of, Sized, Held, pushed, sold_for, Reached, Longer}
use Rattle.laws.proofs.Tests.{true_not_false, fails, both_true, get_d_any}
use Rattle.laws.proofs.Routes.{exists_is}

-- ---- the rides of a route

module _ (r : Route) (sized : Sized r) where
  pub rides_length : length (rides_of r) ≡ r.count
  rides_length = length-take-le r.count r.legs (let l = sized.legs in let f = sized.few in omega arith)

  pub rides_at : (i : ℕ) (d : Leg) → i < r.count → get_or r.legs i d ≡ ride_at (rides_of r) i
  rides_at i d h = get_d_any r.legs i d no_ride (let l = sized.legs in let f = sized.few in omega arith) ∙ sym (get_or-take r.count r.legs i no_ride h)

-- ---- what is sold

pub sold_here : (e : Option ℕ) → e ≡ choose (is_sold e) e None
unfolding is_sold choose
sold_here None = refl
sold_here (Some yen) = refl

module _ (N : Network) (l : Leg) where
  exists_sold : exists N l ≡ true → is_sold (entry_for N l) ≡ true
  unfolding exists
  exists_sold e = (both_true _ _ (both_true _ _ (both_true _ _ (both_true _ _ e).1).1).1).1

  pub not_sold : sold_for N l ≡ None → exists N l ≡ false
  unfolding choose is_sold
  not_sold e = go (exists N l) refl
    where
      go : (t : Bool) → exists N l ≡ t → t ≡ false
      go true p =
          let n : entry_for N l ≡ None = rw p at e in
          let s : is_sold (entry_for N l) ≡ true = exists_sold p in
          absurd (true_not_false (sym (rw n at s)))
      go false p = refl

  pub sold_for_lem : (yen : ℕ) → sold_for N l ≡ Some yen → (exists N l ≡ true) × (entry_for N l ≡ Some yen)
  unfolding choose
  sold_for_lem yen e = go (exists N l) refl
    where
      go : (t : Bool) → exists N l ≡ t → (exists N l ≡ true) × (entry_for N l ≡ Some yen)
      go true p = (p, rw p at e)
      go false p = absurd (let n : None ≡ Some yen = rw p at e in let z : ◌≡◌ {A = ℕ} 0 1 = cc in omega arith)

-- ---- how a ride is reached

module _ (N : Network) (before : List Leg) (l : Leg) where
  pub reach_first : length before ≡ 0 → Reached N before l (Some 0)
  unfolding reached is_link either
  reach_first h = record { test = rw (eq-eqb (length before) 0 h); walked = λ some. absurd (omega arith) }

  pub reach_next : (r : Option ℕ) → 0 < length before → r ≡ link_between N (alighted_at (ride_at before (length before - 1))) (boarded_at l) → Reached N before l r
  unfolding reached either
  reach_next r some e = record { test = rw (ne_eqb (length before) 0 (λ z. omega arith)) (ap is_link e); walked = λ h. e }

  pub reach_none : (r : Option ℕ) → Reached N before l r → r ≡ None → reached N before l ≡ false
  unfolding is_link
  reach_none r h e = sym h.test ∙ ap is_link e

-- ---- a ride that is not good

module _ (N : Network) (before : List Leg) (l : Leg) where
  pub bad_exists : exists N l ≡ false → good_next N before l ≡ false
  unfolding good_next
  bad_exists e = fails (λ t. true_not_false (sym (both_true _ _ t).0 ∙ e))

  pub bad_reached : reached N before l ≡ false → good_next N before l ≡ false
  unfolding good_next
  bad_reached e = fails (λ t. true_not_false (sym (both_true _ _ (both_true _ _ t).1).0 ∙ e))

  pub bad_repeats : repeats before l ≡ true → good_next N before l ≡ false
  unfolding good_next
  bad_repeats e = fails (λ t. true_not_false (sym e ∙ not-true _ (both_true _ _ (both_true _ _ t).1).1))

-- ---- one more ride

module _ (N : Network) (r : Route) (l : Leg) where
  module _ (held : Held N r) (room : r.count < 4) where
    -- what is held of the first rides is held after one more
    same : {A : Type 0} (s : List A) (a d : A) (i : ℕ) → i < r.count → get_or (set s r.count a) i d ≡ get_or s i d
    same s a d i h = get_or-set_other s r.count i a d (λ e. omega arith)

    new : {A : Type 0} (s : List A) (a d : A) → length s ≡ 4 → get_or (set s r.count a) r.count d ≡ a
    new s a d e = get_or-set_same s r.count a d (omega arith)

    pub push_more : (fare link : ℕ) → rides_of (pushed r l fare link) ≡ rides_of r ++ (l ∷ [])
    push_more fare link = ap (λ (n : ℕ). take n (set r.legs r.count l)) (add-one r.count) ∙ take-suc-set r.legs r.count l (let e = held.sized.legs in omega arith)

    module _ (fare link : ℕ) (there : Exists N l) (sold : entry_for N l ≡ Some fare) (walked : Reached N (rides_of r) l (Some link)) where
      links_more : (i : ℕ) → i + 1 < r.count + 1 → link_after N (set r.legs r.count l) i ≡ Some (get_or (set r.links r.count link) (i + 1) 0)
      unfolding link_after
      links_more i h = below_more (λ (j : ℕ). (i : ℕ) → j ≡ i + 1 → link_after N (set r.legs r.count l) i ≡ Some (get_or (set r.links r.count link) (i + 1) 0)) r.count earlier last (i + 1) h i refl
        where
          earlier : (j : ℕ) → j < r.count → (i : ℕ) → j ≡ i + 1 → link_after N (set r.legs r.count l) i ≡ Some (get_or (set r.links r.count link) (i + 1) 0)
          earlier j k i e = rw (same r.legs l no_ride i (omega arith), same r.legs l no_ride (i + 1) (omega arith), same r.links link 0 (i + 1) (omega arith)) (held.links i (omega arith))

          last : (i : ℕ) → r.count ≡ i + 1 → link_after N (set r.legs r.count l) i ≡ Some (get_or (set r.links r.count link) (i + 1) 0)
          last i e =
              let n = rides_length r held.sized in
              let w = walked.walked (omega arith) in
              let p : length (rides_of r) - 1 ≡ i = omega arith in
              let q = rides_at r held.sized i no_ride (omega arith) in
              rw (← e, new r.legs l no_ride held.sized.legs, new r.links link 0 held.sized.links, same r.legs l no_ride i (omega arith), q) (sym (rw p at w))

      pub push_held : Held N (pushed r l fare link)
      push_held = record {
        sized = record {
          legs = length-set r.legs r.count l ∙ held.sized.legs;
          fares = length-set r.fares r.count fare ∙ held.sized.fares;
          links = length-set r.links r.count link ∙ held.sized.links;
          few = omega arith;
        };
        exist = below_more (λ (i : ℕ). Exists N (ride_at (set r.legs r.count l) i)) r.count
            (λ i h. rw (same r.legs l no_ride i h) (held.exist i h))
            (rw (new r.legs l no_ride held.sized.legs) there);
        fares = below_more (λ (i : ℕ). entry_for N (ride_at (set r.legs r.count l) i) ≡ Some (get_or (set r.fares r.count fare) i 0)) r.count
            (λ i h. rw (same r.legs l no_ride i h, same r.fares fare 0 i h) (held.fares i h))
            (rw (new r.legs l no_ride held.sized.legs, new r.fares fare 0 held.sized.fares) sold);
        links = links_more;
      }

    pub extended : (fare link : ℕ) → sold_for N l ≡ Some fare → Reached N (rides_of r) l (Some link) → repeats (rides_of r) l ≡ false
        → Longer N r l (pushed r l fare link)
    unfolding good_next both is_link
    extended fare link sold walked fresh =
        let s = sold_for_lem N l fare sold in
        record {
          good = rw (s.0, ← walked.test, fresh);
          held = push_held fare link ((exists_is N l).0 s.0) s.1 walked;
          more = push_more fare link;
        }

-- a route without rides needs no link for its first one
pub reach_from_none : (N : Network) (r : Route) (l : Leg) → Sized r → r.count ≡ 0 → Reached N (rides_of r) l (Some 0)
reach_from_none N r l s e = reach_first N (rides_of r) l (rides_length r s ∙ e)
