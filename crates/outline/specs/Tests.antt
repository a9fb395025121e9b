-- Tests that hold or fail, and lists given by their items: the words that the other definitions are made of.
use Rattle.std.specs.Prelude.{ℕ, zero, suc, ◌≤◌, Bool, true, false, List, [], ◌∷◌, ◌++◌, take, drop, leb}

unfoldable pub both : Bool → Bool → Bool
both true b = b
both false b = false

unfoldable pub either : Bool → Bool → Bool
either true b = true
either false b = b

-- the first where the test holds, the second where it fails
unfoldable pub choose {ℓ} : {A : Type ℓ} → Bool → A → A → A
choose true a b = a
choose false a b = b

-- low ≤ x ≤ high, as a test and as a fact
unfoldable pub within : ℕ → ℕ → ℕ → Bool
within low x high = both (leb low x) (leb x high)

pub record Within (low x high : ℕ) : Type 0 where
  pub from : low ≤ x
  pub to : x ≤ high

-- each number below n has f
unfoldable pub all_below : (ℕ → Bool) → ℕ → Bool
all_below f zero = true
all_below f (suc n) = both (all_below f n) (f n)

-- some number below n has f
unfoldable pub some_below : (ℕ → Bool) → ℕ → Bool
some_below f zero = false
some_below f (suc n) = either (some_below f n) (f n)

-- f 0, f 1, .., n of them
unfoldable pub list_of {ℓ} : {A : Type ℓ} → (ℕ → A) → ℕ → List A
list_of f zero = []
list_of f (suc n) = f 0 ∷ list_of (λ k. f (suc k)) n

-- n items from `from` on
abbrev pub part : List ℕ → ℕ → ℕ → List ℕ
part s from n = take n (drop from s)

-- f 0, f 1, .., n of them, each after the one before, as one list
unfoldable pub in_order {ℓ} : {A : Type ℓ} → (ℕ → List A) → ℕ → List A
in_order f zero = []
in_order f (suc n) = in_order f n ++ f n
