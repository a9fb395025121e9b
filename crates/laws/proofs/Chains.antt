-- What `any` and `all` answer of a list is what some, or each, of its places says.
use Prim.Native.Nat.{ℕ, zero, suc, ◌<◌}
use mathlib.Core.Path.{◌≡◌, refl, sym, ap, ap₂, ◌∙◌}
use mathlib.Core.List.{List, [], ◌∷◌}
use mathlib.Core.Bool.{Bool, true, false, ◌||◌, ◌&&◌}
use native.Mathlib.Omega.{arith}
use lib.ListN.{length, get_or}
use Rattle.std.specs.List.{list_any, list_all}
use Rattle.outline.specs.Tests.{both, either, all_below, some_below}

either_is : (a b : Bool) → (a || b) ≡ either a b
unfolding either
either_is true b = refl
either_is false b = refl

both_is : (a b : Bool) → (a && b) ≡ both a b
unfolding both
both_is true b = refl
both_is false b = refl

-- the first of the numbers below suc n apart from the others
some_front : (g : ℕ → Bool) (n : ℕ) → some_below g (suc n) ≡ either (g 0) (some_below (λ j. g (suc j)) n)
unfolding some_below either
some_front g zero = go (g 0)
  where
    go : (t : Bool) → t ≡ either t false
    go true = refl
    go false = refl
some_front g (suc n) = ap (λ t. either t (g (suc n))) (some_front g n) ∙ go (g 0)
  where
    go : (t : Bool) → either (either t (some_below (λ j. g (suc j)) n)) (g (suc n)) ≡ either t (either (some_below (λ j. g (suc j)) n) (g (suc n)))
    go true = refl
    go false = refl

all_front : (g : ℕ → Bool) (n : ℕ) → all_below g (suc n) ≡ both (g 0) (all_below (λ j. g (suc j)) n)
unfolding all_below both
all_front g zero = go (g 0)
  where
    go : (t : Bool) → t ≡ both t true
    go true = refl
    go false = refl
all_front g (suc n) = ap (λ t. both t (g (suc n))) (all_front g n) ∙ go (g 0)
  where
    go : (t : Bool) → both (both t (all_below (λ j. g (suc j)) n)) (g (suc n)) ≡ both t (both (all_below (λ j. g (suc j)) n) (g (suc n)))
    go true = refl
    go false = refl

-- tests that agree below n
pub all_alike : (f g : ℕ → Bool) (n : ℕ) → ((i : ℕ) → i < n → f i ≡ g i) → all_below f n ≡ all_below g n
unfolding all_below
all_alike f g zero h = refl
all_alike f g (suc n) h = ap₂ both (all_alike f g n (λ i l. h i (omega arith))) (h n (omega arith))

module _ {A : Type 0} (f : A → Bool) (d : A) where
  pub any_is : (s : List A) → list_any f s ≡ some_below (λ j. f (get_or s j d)) (length s)
  unfolding some_below
  any_is [] = refl
  any_is (x ∷ s) = either_is (f x) (list_any f s) ∙ ap (either (f x)) (any_is s) ∙ sym (some_front (λ j. f (get_or (x ∷ s) j d)) (length s))

  pub all_is : (s : List A) → list_all f s ≡ all_below (λ j. f (get_or s j d)) (length s)
  unfolding all_below
  all_is [] = refl
  all_is (x ∷ s) = both_is (f x) (list_all f s) ∙ ap (both (f x)) (all_is s) ∙ sym (all_front (λ j. f (get_or (x ∷ s) j d)) (length s))
