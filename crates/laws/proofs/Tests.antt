-- Laws of the tests and of lists given by their items.
use Prim.Native.Nat.{ℕ, zero, suc, ◌+◌, ◌≤◌, ◌<◌}
use mathlib.Core.Path.{◌≡◌, refl, sym, ap, ◌∙◌}
use mathlib.Core.List.{List, [], ◌∷◌}
use mathlib.Core.Bool.{Bool, true, false}
use mathlib.Core.Logic.{◌⊎◌, inl, inr}
use native.Mathlib.Nat.{not-suc-le-zero, le_of_suc-le-suc}
use native.Mathlib.Numerals.{add-one}
use native.Mathlib.Omega.{arith}
use lib.ListN.{length, get_or}
use lib.Dec.{ltb}
use borrow.Author.Count.{below_more}
use Rattle.std.proofs.Common.{IsTrue, ◌↔◌}
use borrow.Author.Tests.{leb-true, le-leb, ltb-true, ltb-false}
use Rattle.outline.specs.Tests.{both, either, within, Within, all_below, some_below, list_of}

pub true_not_false : true ≡ false → ⊥
true_not_false e = let z : ◌≡◌ {A = ℕ} 0 1 = cc in omega arith

-- a test that cannot hold fails
pub fails : {t : Bool} → (t ≡ true → ⊥) → t ≡ false
fails {t = true} h = absurd (h refl)
fails {t = false} h = refl

pub both_true : (a b : Bool) → both a b ≡ true → (a ≡ true) × (b ≡ true)
unfolding both
both_true true b e = (refl, e)
both_true false b e = absurd (true_not_false (sym e))

pub both_holds : (a b : Bool) → a ≡ true → b ≡ true → both a b ≡ true
unfolding both
both_holds a b p q = rw (p, q)

pub either_false : (a b : Bool) → either a b ≡ false → (a ≡ false) × (b ≡ false)
unfolding either
either_false true b e = absurd (true_not_false e)
either_false false b e = (refl, e)

pub either_true : (a b : Bool) → either a b ≡ true → (a ≡ true) ⊎ (b ≡ true)
unfolding either
either_true true b e = inl refl
either_true false b e = inr e

pub either_first : (a b : Bool) → a ≡ true → either a b ≡ true
unfolding either
either_first a b e = rw e

pub either_second : (a b : Bool) → b ≡ true → either a b ≡ true
unfolding either
either_second true b e = refl
either_second false b e = e

pub within_true : (low x high : ℕ) → within low x high ≡ true → Within low x high
unfolding within
within_true low x high e =
    let p = both_true _ _ e in
    record { from = leb-true _ _ p.0; to = leb-true _ _ p.1 }

pub within_holds : (low x high : ℕ) → Within low x high → within low x high ≡ true
unfolding within
within_holds low x high w = both_holds _ _ (le-leb _ _ w.from) (le-leb _ _ w.to)

pub within_of : (low x high : ℕ) → low ≤ x → x ≤ high → within low x high ≡ true
within_of low x high h l = within_holds low x high (record { from = h; to = l })

-- one of two numbers is the less, or they are equal
pub compared : (m n : ℕ) → (m < n) ⊎ ((m ≡ n) ⊎ (n < m))
compared m n = go (ltb m n) refl (ltb n m) refl
  where
    go : (t : Bool) → ltb m n ≡ t → (u : Bool) → ltb n m ≡ u → (m < n) ⊎ ((m ≡ n) ⊎ (n < m))
    go true p u q = inl (ltb-true _ _ p)
    go false p true q = inr (inr (ltb-true _ _ q))
    go false p false q = let l = ltb-false m n p in let g = ltb-false n m q in inr (inl (omega arith))

-- ---- each number below n, and some

-- what holds of each number below n, and of n, holds of each below suc n
below_suc : (P : ℕ → Type 0) (n : ℕ) → ((k : ℕ) → k < n → P k) → P n → (k : ℕ) → k < suc n → P k
below_suc P n p q k h = below_more P n p q k (omega arith)

pub all_true : (f : ℕ → Bool) (n : ℕ) → all_below f n ≡ true → (k : ℕ) → k < n → f k ≡ true
unfolding all_below
all_true f zero e k h = absurd (not-suc-le-zero h)
all_true f (suc n) e k h =
    let p = both_true (all_below f n) (f n) e in
    below_suc (λ (j : ℕ). f j ≡ true) n (all_true f n p.0) p.1 k h

pub all_holds : (f : ℕ → Bool) (n : ℕ) → ((k : ℕ) → k < n → f k ≡ true) → all_below f n ≡ true
unfolding all_below
all_holds f zero h = refl
all_holds f (suc n) h = both_holds (all_below f n) (f n) (all_holds f n (λ k l. h k (omega arith))) (h n (omega arith))

-- one turn of a loop: all below k hold, and so does k
pub all_more : (f : ℕ → Bool) (k : ℕ) → all_below f k ≡ true → f k ≡ true → all_below f (k + 1) ≡ true
unfolding all_below
all_more f k p q = rw add-one (both_holds (all_below f k) (f k) p q)

-- all below n fails where k, below n, fails
pub all_stops : (f : ℕ → Bool) (n k : ℕ) → k < n → f k ≡ false → all_below f n ≡ false
all_stops f n k h e = go (all_below f n) refl
  where
    go : (t : Bool) → all_below f n ≡ t → t ≡ false
    go true p = absurd (true_not_false (sym (all_true f n p k h) ∙ e))
    go false p = refl

pub some_false : (f : ℕ → Bool) (n : ℕ) → some_below f n ≡ false → (k : ℕ) → k < n → f k ≡ false
unfolding some_below
some_false f zero e k h = absurd (not-suc-le-zero h)
some_false f (suc n) e k h =
    let p = either_false (some_below f n) (f n) e in
    below_suc (λ (j : ℕ). f j ≡ false) n (some_false f n p.0) p.1 k h

pub none_holds : (f : ℕ → Bool) (n : ℕ) → ((k : ℕ) → k < n → f k ≡ false) → some_below f n ≡ false
unfolding some_below either
none_holds f zero h = refl
none_holds f (suc n) h = rw (none_holds f n (λ k l. h k (omega arith)), h n (omega arith))

pub some_more : (f : ℕ → Bool) (k : ℕ) → some_below f k ≡ false → f k ≡ false → some_below f (k + 1) ≡ false
unfolding some_below either
some_more f k p q = rw (add-one, p, q)

-- some number below n holds where k, below n, does
pub some_stops : (f : ℕ → Bool) (n k : ℕ) → k < n → f k ≡ true → some_below f n ≡ true
some_stops f n k h e = go (some_below f n) refl
  where
    go : (t : Bool) → some_below f n ≡ t → t ≡ true
    go true p = refl
    go false p = absurd (true_not_false (sym e ∙ some_false f n p k h))

-- a test that holds exactly where each number below n has f
pub all_is : (f : ℕ → Bool) (n : ℕ) (t : Bool) → IsTrue t ↔ ((k : ℕ) → k < n → f k ≡ true) → t ≡ all_below f n
all_is f n t h = go t refl
  where
    go : (s : Bool) → t ≡ s → s ≡ all_below f n
    go true e = sym (all_holds f n (h.0 e))
    go false e = sym (fails (λ a. true_not_false (sym (h.1 (all_true f n a)) ∙ e)))

-- ---- lists given by their items

pub get_or-list_of {ℓ} : {A : Type ℓ} (f : ℕ → A) (n k : ℕ) (d : A) → k < n → get_or (list_of f n) k d ≡ f k
unfolding list_of
get_or-list_of f zero k d h = absurd (not-suc-le-zero h)
get_or-list_of f (suc n) zero d h = refl
get_or-list_of f (suc n) (suc k) d h = get_or-list_of (λ j. f (suc j)) n k d (le_of_suc-le-suc h)

pub length-list_of {ℓ} : {A : Type ℓ} (f : ℕ → A) (n : ℕ) → length (list_of f n) ≡ n
unfolding list_of
length-list_of f zero = refl
length-list_of f (suc n) = ap suc (length-list_of (λ j. f (suc j)) n)

-- below a list's length the default does not matter
pub get_d_any {ℓ} : {A : Type ℓ} (s : List A) (i : ℕ) (d e : A) → i < length s → get_or s i d ≡ get_or s i e
get_d_any [] i d e h = absurd (not-suc-le-zero h)
get_d_any (x ∷ s) zero d e h = refl
get_d_any (x ∷ s) (suc i) d e h = get_d_any s i d e (le_of_suc-le-suc h)
