-- The best rule of a run is one that earns most, and of those the lowest.
use Prim.Native.Nat.{ℕ, zero, suc, ◌+◌, ◌≤◌, ◌<◌}
use mathlib.Core.Path.{◌≡◌, refl, sym, ap, subst, ◌∙◌}
use mathlib.Core.Logic.{◌⊎◌, inl, inr, ⊎_elim}
use mathlib.Core.Bool.{Bool, true, false}
use native.Mathlib.Omega.{arith}
use native.Mathlib.Numerals.{add-one}
use native.Mathlib.Decide.{dec_lt}
use lib.Dec.{ltb}
use borrow.Author.Tests.{ltb-true, ltb-false}
use borrow.Author.Count.{below_more}
use Rattle.outline.specs.declared.Payer.{Payer}
use Rattle.std.specs.Prelude.{Option, Some, None}
use Rattle.outline.specs.Tests.{choose}
use Rattle.outline.specs.Selections.{yen}
use Rattle.outline.specs.Choosing.{or_rule, best_rule}

pub record Most (f : ℕ → Option ℕ) (n k y : ℕ) : Type 0 where
  pub known : k < n
  pub earned : f k ≡ Some y
  pub most : (j x : ℕ) → j < n → f j ≡ Some x → (x < y) ⊎ ((x ≡ y) × (k ≤ j))

abbrev pub pays : ℕ → ℕ → Option Payer
pays k y = Some (record { rule = k; yen = y })

abbrev pub Right : (ℕ → Option ℕ) → ℕ → Option Payer → Type 0
Right f n None = (j x : ℕ) → j < n → f j ≡ Some x → ⊥
Right f n (Some p) = Most f n p.rule p.yen

-- what holds of each number below n, and of n, holds of each below suc n
one_more : (P : ℕ → Type 0) (n : ℕ) → ((j : ℕ) → j < n → P j) → P n → (j : ℕ) → j < suc n → P j
one_more P n below here j h = below_more P n below here j (omega arith)

same_yen : (s : Option ℕ) (x y : ℕ) → s ≡ Some x → s ≡ Some y → x ≡ y
same_yen s x y e h = cc

never : (s : Option ℕ) (x : ℕ) → s ≡ None → s ≡ Some x → ⊥
never s x e h = let z : ◌≡◌ {A = ℕ} 0 1 = cc in omega arith

picked : (f : ℕ → Option ℕ) (n j x y : ℕ) (b : Bool) → ltb x y ≡ b → f n ≡ Some y → Most f n j x → Right f (suc n) (choose b (pays n y) (pays j x))
unfolding choose
picked f n j x y true t e h = record {
  known = omega arith;
  earned = e;
  most = λ i z l g. one_more (λ (i : ℕ). (z : ℕ) → f i ≡ Some z → (z < y) ⊎ ((z ≡ y) × (n ≤ i))) n
      (λ i l z g. let lt = ltb-true x y t in ⊎_elim (λ a. inl (omega arith)) (λ a. inl (omega arith)) (h.most i z l g))
      (λ z g. inr (same_yen (f n) z y g e, omega arith)) i l z g;
}
picked f n j x y false t e h = record {
  known = omega (arith, h.known);
  earned = h.earned;
  most = λ i z l g. one_more (λ (i : ℕ). (z : ℕ) → f i ≡ Some z → (z < x) ⊎ ((z ≡ x) × (j ≤ i))) n
      (λ i l z g. h.most i z l g)
      (λ z g. let s = same_yen (f n) z y g e in let le = ltb-false x y t in at_most z x j n (omega arith) (omega (arith, h.known))) i l z g;
}
  where
    at_most : (z x j n : ℕ) → z ≤ x → j ≤ n → (z < x) ⊎ ((z ≡ x) × (j ≤ n))
    at_most z x j n l m = go (dec_lt z x)
      where
        go : Dec (z < x) → (z < x) ⊎ ((z ≡ x) × (j ≤ n))
        go (yes k) = inl k
        go (no k) = inr (omega arith, m)

turn : (f : ℕ → Option ℕ) (n : ℕ) (held : Option Payer) (s : Option ℕ) → f n ≡ s → Right f n held → Right f (suc n) (or_rule held n s)
unfolding or_rule
turn f n None None e h = λ j x l g. one_more (λ (j : ℕ). (x : ℕ) → f j ≡ Some x → ⊥) n (λ j l x g. h j x l g) (λ x g. never (f n) x e g) j l x g
turn f n (Some p) None e h = record {
  known = omega (arith, h.known);
  earned = h.earned;
  most = λ j x l g. one_more (λ (j : ℕ). (x : ℕ) → f j ≡ Some x → (x < p.yen) ⊎ ((x ≡ p.yen) × (p.rule ≤ j))) n (λ j l x g. h.most j x l g) (λ x g. absurd (never (f n) x e g)) j l x g;
}
turn f n None (Some y) e h = record {
  known = omega arith;
  earned = e;
  most = λ j x l g. one_more (λ (j : ℕ). (x : ℕ) → f j ≡ Some x → (x < y) ⊎ ((x ≡ y) × (n ≤ j))) n (λ j l x g. absurd (h j x l g)) (λ x g. inr (same_yen (f n) x y g e, omega arith)) j l x g;
}
turn f n (Some p) (Some y) e h = picked f n p.rule p.yen y (ltb p.yen y) refl e h

pub rule_right : (f : ℕ → Option ℕ) (n : ℕ) → Right f n (best_rule f n)
unfolding best_rule
rule_right f zero = λ j x l g. omega arith
rule_right f (suc n) = turn f n (best_rule f n) (f n) refl (rule_right f n)

pub record Earned (s : Option ℕ) : Type 0 where
  pub yen : ℕ
  pub is : s ≡ Some yen

pub earned : (s : Option ℕ) → (s ≡ None → ⊥) → Earned s
earned None h = absurd (h refl)
earned (Some y) h = record { yen = y; is = refl }

pub yen_is : (s : Option ℕ) (y : ℕ) → s ≡ Some y → yen s ≡ y
unfolding yen
yen_is s y e = subst (λ (x : Option ℕ). yen x ≡ y) (sym e) refl

pub pays_is : (s : Option ℕ) (y : ℕ) → s ≡ Some y → s ≡ None → ⊥
pays_is s y e h = never s y h e

-- one more rule
pub rule_again : (f : ℕ → Option ℕ) (k : ℕ) (held r : Option Payer) (s : Option ℕ) → held ≡ best_rule f k → s ≡ f k → r ≡ or_rule held k s → r ≡ best_rule f (k + 1)
unfolding best_rule
rule_again f k held r s h e g = g ∙ ap (λ (p : Option Payer). or_rule p k s) h ∙ ap (or_rule (best_rule f k) k) e ∙ ap (best_rule f) (sym (add-one k))
