-- The computed selection is the one that counts, for any number of rides and whatever the rules earn; and no other is.
use Prim.Native.Nat.{ℕ, zero, suc, ◌+◌, ◌≤◌, ◌<◌}
use mathlib.Core.Path.{◌≡◌, refl, sym, ap, subst, ◌∙◌}
use mathlib.Core.Logic.{◌⊎◌, inl, inr, ⊎_elim}
use mathlib.Core.Bool.{Bool, true, false}
use mathlib.Core.List.{List, [], ◌∷◌}
use native.Mathlib.Omega.{arith}
use native.Mathlib.Decide.{dec_lt}
use lib.ListN.{length}
use lib.Dec.{ltb, leb}
use borrow.Author.Tests.{ltb-true, ltb-false, leb-true, leb-false}
use Rattle.outline.specs.declared.Run.{Run}
use Rattle.outline.specs.declared.Payer.{Payer}
use Rattle.std.specs.Prelude.{Option, Some, None}
use Rattle.outline.specs.Tests.{choose}
use Rattle.outline.specs.Lexical.{LexLe}
use Rattle.outline.specs.Selections.{Earn, yen, Apart, total, numbers, Counts, Best}
use Rattle.outline.specs.Choosing.{best_rule, rather, with_run, or_run, best_from, best_runs}
use Rattle.laws.proofs.Tests.{compared}
use Rattle.choice.proofs.Ordered.{counts_same, counts_then, counts_only}
use Rattle.choice.proofs.Rules.{Most, Right, rule_right, Earned, earned, yen_is, pays_is}

-- s has no run from ride `at` of fewer than m rides
After : ℕ → ℕ → List Run → Type 0
After at m [] = Unit {0}
After at m (p ∷ s) = (at < p.first) ⊎ ((at ≡ p.first) × (m ≤ p.rides))

-- s begins with a run of m rides from ride `at`
Starts : ℕ → ℕ → List Run → Type 0
Starts at m [] = ⊥
Starts at m (p ∷ s) = (at ≡ p.first) × (m ≡ p.rides)

after_less : (at m : ℕ) (s : List Run) → After at (m + 1) s → After at m s
unfolding After
after_less at m [] h = tt
after_less at m (p ∷ s) h = ⊎_elim (λ a. inl a) (λ a. inr (a.0, omega (arith, a.1))) h

after_split : (at m : ℕ) (s : List Run) → After at m s → After at (m + 1) s ⊎ Starts at m s
unfolding After Starts
after_split at m [] h = inl tt
after_split at m (p ∷ s) (inl a) = inl (inl a)
after_split at m (p ∷ s) (inr a) = go (dec_lt m p.rides)
  where
    go : Dec (m < p.rides) → ((at < p.first) ⊎ ((at ≡ p.first) × (m + 1 ≤ p.rides))) ⊎ ((at ≡ p.first) × (m ≡ p.rides))
    go (yes h) = inl (inr (a.0, omega arith))
    go (no h) = inr (a.0, omega (arith, a.1))

-- `rather` takes one of the two, and that one counts, if the first of two with as many runs has the lesser list
pub record Taken (earn : Earn) (s t r : List Run) : Type 0 where
  pub one : ((r ≡ s) × Counts earn s t) ⊎ ((r ≡ t) × Counts earn t s)

rather_takes : (earn : Earn) (s t : List Run) → (length s ≡ length t → LexLe (numbers s) (numbers t)) → Taken earn s t (rather earn s t)
unfolding rather choose
rather_takes earn s t lesser = go (ltb (total earn s) (total earn t)) (ltb (total earn t) (total earn s)) (leb (length s) (length t)) refl refl refl
  where
    go : (a b c : Bool) → ltb (total earn s) (total earn t) ≡ a → ltb (total earn t) (total earn s) ≡ b → leb (length s) (length t) ≡ c
        → Taken earn s t (choose a t (choose b s (choose c s t)))
    go true b c x y z = record { one = inr (refl, inl (ltb-true _ _ x)) }
    go false true c x y z = record { one = inl (refl, inl (ltb-true _ _ y)) }
    go false false true x y z =
        let le = ltb-false (total earn s) (total earn t) x in let ge = ltb-false (total earn t) (total earn s) y in let few = leb-true (length s) (length t) z in
        record { one = inl (refl, inr (omega arith, ⊎_elim (λ h. inl h) (⊎_elim (λ e. inr (e, lesser e)) (λ h. absurd (omega arith))) (compared (length s) (length t)))) }
    go false false false x y z =
        let le = ltb-false (total earn s) (total earn t) x in let ge = ltb-false (total earn t) (total earn s) y in let more = leb-false (length s) (length t) z in
        record { one = inr (refl, inr (omega arith, inl (omega arith))) }

module _ (earn : Earn) (rules n : ℕ) where
  -- s is the first of the selections of the rides from `at` on that have no run from ride `at` of fewer than m rides
  record Least (at m : ℕ) (s : List Run) : Type 0 where
    apart : Apart earn rules n at s
    after : After at m s
    first : (t : List Run) → Apart earn rules n at t → After at m t → Counts earn s t

  after_two : (at : ℕ) (s : List Run) → Apart earn rules n at s → After at 2 s
  unfolding Apart After
  after_two at [] h = tt
  after_two at (p ∷ s) h = go (dec_lt at p.first)
    where
      go : Dec (at < p.first) → (at < p.first) ⊎ ((at ≡ p.first) × (2 ≤ p.rides))
      go (yes k) = inl k
      go (no k) = inr (omega (arith, h.0.after), h.0.long.from)

  apart_before : (at : ℕ) (s : List Run) → Apart earn rules n (at + 1) s → Apart earn rules n at s
  unfolding Apart
  apart_before at [] h = tt
  apart_before at (p ∷ s) h =
      let a = h.0 in
      (record { after = omega (arith, a.after); long = a.long; inside = a.inside; known = a.known; pays = a.pays }, h.1)

  after_alone : (at : ℕ) (s : List Run) → Apart earn rules n (at + 1) s → After at 5 s
  unfolding Apart After
  after_alone at [] h = tt
  after_alone at (p ∷ s) h = inl (omega (arith, h.0.after))

  apart_alone : (at : ℕ) (s : List Run) → Apart earn rules n at s → After at 5 s → Apart earn rules n (at + 1) s
  unfolding Apart After
  apart_alone at [] h k = tt
  apart_alone at (p ∷ s) h (inl k) =
      let a = h.0 in
      (record { after = omega arith; long = a.long; inside = a.inside; known = a.known; pays = a.pays }, h.1)
  apart_alone at (p ∷ s) h (inr k) = absurd (omega (arith, k.1, h.0.long.to))

  least_none : (at : ℕ) → n ≤ at + 1 → Least at 2 []
  unfolding Apart After
  least_none at short = record { apart = tt; after = tt; first = go }
    where
      go : (t : List Run) → Apart earn rules n at t → After at 2 t → Counts earn [] t
      go [] h k = counts_same earn []
      go (p ∷ t) h k = absurd (omega (arith, h.0.after, h.0.long.from, h.0.inside))

  least_alone : (at : ℕ) (s : List Run) → Least (at + 1) 2 s → Least at 5 s
  least_alone at s h = record {
    apart = apart_before at s h.apart;
    after = after_alone at s h.apart;
    first = λ t a k. let b = apart_alone at t a k in h.first t b (after_two (at + 1) t b);
  }

  -- there is no room for a run of m rides
  least_short : (at m : ℕ) (s : List Run) → n < at + m → Least at (m + 1) s → Least at m s
  unfolding Apart Starts
  least_short at m s short h = record {
    apart = h.apart;
    after = after_less at m s h.after;
    first = λ t a k. ⊎_elim (λ l. h.first t a l) (λ l. absurd (none t a l)) (after_split at m t k);
  }
    where
      none : (t : List Run) → Apart earn rules n at t → Starts at m t → ⊥
      none [] a l = l
      none (p ∷ t) a l = omega (arith, l.0, l.1, a.0.inside)

  module _ (at m : ℕ) (rest held : List Run) (two : 2 ≤ m) (four : m ≤ 4) (room : at + m ≤ n) (tail : Least (at + m) 2 rest) (so_far : Least at (m + 1) held) where
    run_by : ℕ → List Run
    run_by k = record { first = at; rides = m; rule = k } ∷ rest

    -- the best rule with the best rest is no worse than any other selection that begins with these rides
    front : (k y : ℕ) → Most (earn at m) rules k y → (t : List Run) → Apart earn rules n at t → Starts at m t → Counts earn (run_by k) t
    unfolding Apart Starts run_by total numbers LexLe
    front k y best [] a l = absurd l
    front k y best (p ∷ t) a l = ⊎_elim more same (best.most p.rule e.yen a.0.known (as_mine e.is))
      where
        e : Earned (earn p.first p.rides p.rule)
        e = earned _ a.0.pays

        as_mine : earn p.first p.rides p.rule ≡ Some e.yen → earn at m p.rule ≡ Some e.yen
        as_mine h = ap (λ (i : ℕ). earn i m p.rule) l.0 ∙ ap (λ (i : ℕ). earn p.first i p.rule) l.1 ∙ h

        mine : yen (earn at m k) ≡ y
        mine = yen_is _ y best.earned

        theirs : yen (earn p.first p.rides p.rule) ≡ e.yen
        theirs = yen_is _ _ e.is

        place : p.first + p.rides ≡ at + m
        place = omega (arith, l.0, l.1)

        behind : Counts earn rest t
        behind = let b = subst (λ (i : ℕ). Apart earn rules n i t) place a.1 in tail.first t b (after_two (at + m) t b)

        more : e.yen < y → Counts earn (run_by k) (p ∷ t)
        more h = inl (⊎_elim (λ b. omega (arith, mine, theirs, h, b)) (λ b. omega (arith, mine, theirs, h, b.0)) behind)

        same : (e.yen ≡ y) × (k ≤ p.rule) → Counts earn (run_by k) (p ∷ t)
        same h = ⊎_elim (λ b. inl (omega (arith, mine, theirs, h.0, b)))
            (λ b. inr (
              omega (arith, mine, theirs, h.0, b.0),
              ⊎_elim (λ f. inl (omega arith))
                  (λ f. inr (omega (arith, f.0), inr (l.0, inr (l.1, ⊎_elim (λ g. inl g) (⊎_elim (λ g. inr (g, f.1)) (λ g. absurd (omega (arith, h.1)))) (compared k p.rule)))))
                  b.1,
            ))
            behind

    -- of as many runs it has the lesser list than what is held
    ahead : (k : ℕ) (s : List Run) → After at (m + 1) s → length (run_by k) ≡ length s → LexLe (numbers (run_by k)) (numbers s)
    unfolding After run_by numbers LexLe
    ahead k [] h e = absurd (omega arith)
    ahead k (p ∷ s) (inl h) e = inl h
    ahead k (p ∷ s) (inr h) e = inr (h.0, inl (omega (arith, h.1)))

    front_apart : (k y : ℕ) → Most (earn at m) rules k y → Apart earn rules n at (run_by k)
    unfolding Apart run_by
    front_apart k y best = (record { after = omega arith; long = record { from = two; to = four }; inside = room; known = best.known; pays = pays_is _ y best.earned }, tail.apart)

    front_after : (k : ℕ) → After at m (run_by k)
    unfolding After run_by
    front_after k = inr (refl, omega arith)

    taken : (k y : ℕ) → Most (earn at m) rules k y → (r : List Run) → Taken earn (run_by k) held r → Least at m r
    taken k y best r h = ⊎_elim
        (λ a. subst (Least at m) (sym a.0) (record {
          apart = front_apart k y best;
          after = front_after k;
          first = λ t b c. ⊎_elim (λ l. counts_then earn (run_by k) held t a.1 (so_far.first t b l)) (λ l. front k y best t b l) (after_split at m t c);
        }))
        (λ a. subst (Least at m) (sym a.0) (record {
          apart = so_far.apart;
          after = after_less at m held so_far.after;
          first = λ t b c. ⊎_elim (λ l. so_far.first t b l) (λ l. counts_then earn held (run_by k) t a.1 (front k y best t b l)) (after_split at m t c);
        }))
        h.one

    no_front : ((j x : ℕ) → j < rules → earn at m j ≡ Some x → ⊥) → (t : List Run) → Apart earn rules n at t → Starts at m t → ⊥
    unfolding Apart Starts
    no_front h [] a l = l
    no_front h (p ∷ t) a l =
        let e = earned _ a.0.pays in
        h p.rule e.yen a.0.known (ap (λ (i : ℕ). earn i m p.rule) l.0 ∙ ap (λ (i : ℕ). earn p.first i p.rule) l.1 ∙ e.is)

    with_run_lem : (b : Option Payer) → Right (earn at m) rules b → Least at m (with_run earn at m rest held b)
    unfolding with_run run_by
    with_run_lem None h = record {
      apart = so_far.apart;
      after = after_less at m held so_far.after;
      first = λ t a k. ⊎_elim (λ l. so_far.first t a l) (λ l. absurd (no_front h t a l)) (after_split at m t k);
    }
    with_run_lem (Some p) h = taken p.rule p.yen h _ (rather_takes earn (run_by p.rule) held (ahead p.rule held so_far.after))

    least_or : Least at m (or_run earn rules at m rest held)
    unfolding or_run
    least_or = with_run_lem (best_rule (earn at m) rules) (rule_right (earn at m) rules)

  least : (l at : ℕ) → at + l ≡ n → Least at 2 (best_from earn rules l at)
  unfolding best_from
  least zero at e = least_none at (omega arith)
  least (suc zero) at e = least_none at (omega arith)
  least (suc (suc zero)) at e =
      least_or at 2 [] [] (omega arith) (omega arith) (omega arith) (least_none (at + 2) (omega arith))
      (least_short at 3 [] (omega arith) (least_short at 4 [] (omega arith) (least_alone at [] (least_none (at + 1) (omega arith)))))
  least (suc (suc (suc zero))) at e =
      least_or at 2 [] _ (omega arith) (omega arith) (omega arith) (least_none (at + 2) (omega arith))
      (least_or at 3 [] _ (omega arith) (omega arith) (omega arith) (least_none (at + 3) (omega arith))
      (least_short at 4 _ (omega arith) (least_alone at _ (least (suc (suc zero)) (at + 1) (omega arith)))))
  least (suc (suc (suc (suc l)))) at e =
      least_or at 2 _ _ (omega arith) (omega arith) (omega arith) (least (suc (suc l)) (at + 2) (omega arith))
      (least_or at 3 _ _ (omega arith) (omega arith) (omega arith) (least (suc l) (at + 3) (omega arith))
      (least_or at 4 _ _ (omega arith) (omega arith) (omega arith) (least l (at + 4) (omega arith))
      (least_alone at _ (least (suc (suc (suc l))) (at + 1) (omega arith)))))

  -- the computed selection counts
  pub computed_best : Best earn rules n (best_runs earn rules n)
  computed_best = let l = least n 0 (omega arith) in record { apart = l.apart; first = λ t a. l.first t a (after_two 0 t a) }

  -- and no other does
  pub best_only : (s t : List Run) → Best earn rules n s → Best earn rules n t → s ≡ t
  best_only s t h k = counts_only earn s t (h.first t k.apart) (k.first s h.apart)
