-- Which items the lists of Listing.antt have.
use Prim.Native.Nat.{ℕ, zero, suc, ◌<◌}
use mathlib.Core.Path.{◌≡◌, refl, sym, ap, subst, ◌∙◌}
use mathlib.Core.Bool.{Bool, true, false}
use mathlib.Core.Logic.{◌⊎◌, inl, inr, ⊎_elim}
use mathlib.Core.List.{List, [], ◌∷◌, ◌++◌}
use native.Mathlib.Nat.{le_of_suc-le-suc, not-suc-le-zero, eq-or-lt_of_le}
use native.Mathlib.Omega.{arith}
use Rattle.outline.specs.Tests.{choose, list_of, in_order}
use Rattle.outline.specs.Listing.{those, of_each}
use Rattle.cheapest.specs.Items.{In}

pub of_one : {A : Type 0} (x y : A) → In y (x ∷ []) → x ≡ y
unfolding In
of_one x y (inl e) = e
of_one x y (inr h) = absurd h

pub in_first : {A : Type 0} (x : A) (s t : List A) → In x s → In x (s ++ t)
unfolding In
in_first x [] t h = absurd h
in_first x (y ∷ s) t (inl e) = inl e
in_first x (y ∷ s) t (inr h) = inr (in_first x s t h)

pub in_second : {A : Type 0} (x : A) (s t : List A) → In x t → In x (s ++ t)
unfolding In
in_second x [] t h = h
in_second x (y ∷ s) t h = inr (in_second x s t h)

pub in_either : {A : Type 0} (x : A) (s t : List A) → In x (s ++ t) → In x s ⊎ In x t
unfolding In
in_either x [] t h = inr h
in_either x (y ∷ s) t (inl e) = inl (inl e)
in_either x (y ∷ s) t (inr h) = ⊎_elim (λ a. inl (inr a)) (λ b. inr b) (in_either x s t h)

-- those that have f

pub in_those : {A : Type 0} (f : A → Bool) (x : A) (s : List A) → In x s → f x ≡ true → In x (those f s)
unfolding In those choose
in_those f x [] h t = absurd h
in_those f x (y ∷ s) (inl e) t = rw (ap f e ∙ t) (inl e)
in_those f x (y ∷ s) (inr h) t = go (f y) (in_those f x s h t)
  where
    go : (b : Bool) → In x (those f s) → In x (choose b (y ∷ those f s) (those f s))
    go true k = inr k
    go false k = k

pub of_those : {A : Type 0} (f : A → Bool) (x : A) (s : List A) → In x (those f s) → In x s × (f x ≡ true)
unfolding In those choose
of_those f x [] h = absurd h
of_those f x (y ∷ s) h = go (f y) refl h (of_those f x s)
  where
    go : (b : Bool) → f y ≡ b → In x (choose b (y ∷ those f s) (those f s)) → (In x (those f s) → In x s × (f x ≡ true)) → In x (y ∷ s) × (f x ≡ true)
    go true e (inl p) rest = (inl p, ap f (sym p) ∙ e)
    go true e (inr k) rest = (inr (rest k).0, (rest k).1)
    go false e k rest = (inr (rest k).0, (rest k).1)

-- of each item a list

pub in_each : {A B : Type 0} (f : A → List B) (x : A) (y : B) (s : List A) → In x s → In y (f x) → In y (of_each f s)
unfolding In of_each
in_each f x y [] h k = absurd h
in_each f x y (z ∷ s) (inl e) k = in_first y (f z) (of_each f s) (subst (λ (w : _). In y (f w)) (sym e) k)
in_each f x y (z ∷ s) (inr h) k = in_second y (f z) (of_each f s) (in_each f x y s h k)

pub of_each_lem : {A B : Type 0} (f : A → List B) (y : B) (s : List A) → In y (of_each f s) → (x : A) × In x s × In y (f x)
unfolding In of_each
of_each_lem f y [] h = absurd h
of_each_lem f y (z ∷ s) h =
    ⊎_elim (λ a. (z, inl refl, a)) (λ b. let r = of_each_lem f y s b in (r.0, inr r.1, r.2)) (in_either y (f z) (of_each f s) h)

-- lists by their numbers

pub in_lists : {A : Type 0} (f : ℕ → List A) (x : A) (n k : ℕ) → k < n → In x (f k) → In x (in_order f n)
unfolding in_order
in_lists f x zero k h i = absurd (not-suc-le-zero h)
in_lists f x (suc n) k h i =
    ⊎_elim (λ e. in_second x (in_order f n) (f n) (subst (λ (j : ℕ). In x (f j)) e i))
    (λ l. in_first x (in_order f n) (f n) (in_lists f x n k l i))
    (eq-or-lt_of_le (le_of_suc-le-suc h))

pub of_lists : {A : Type 0} (f : ℕ → List A) (x : A) (n : ℕ) → In x (in_order f n) → (k : ℕ) × (k < n) × In x (f k)
unfolding In in_order
of_lists f x zero h = absurd h
of_lists f x (suc n) h =
    ⊎_elim (λ a. let (k, l, i) = of_lists f x n a in (k, omega arith, i)) (λ b. (n, omega arith, b)) (in_either x (in_order f n) (f n) h)

pub in_list : {A : Type 0} (f : ℕ → A) (n k : ℕ) → k < n → In (f k) (list_of f n)
unfolding In list_of
in_list f zero k h = absurd (not-suc-le-zero h)
in_list f (suc n) zero h = inl refl
in_list f (suc n) (suc k) h = inr (in_list (λ j. f (suc j)) n k (le_of_suc-le-suc h))

pub of_list : {A : Type 0} (f : ℕ → A) (x : A) (n : ℕ) → In x (list_of f n) → (k : ℕ) × (k < n) × (f k ≡ x)
unfolding In list_of
of_list f x zero h = absurd h
of_list f x (suc n) (inl e) = (zero, omega arith, e)
of_list f x (suc n) (inr h) = let (k, l, e) = of_list (λ j. f (suc j)) x n h in (suc k, omega arith, e)
