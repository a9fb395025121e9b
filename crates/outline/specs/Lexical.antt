-- Lists of numbers in order, "read left to right".
use Rattle.std.specs.Prelude.{ℕ, ◌<◌, ◌≡◌, ◌⊎◌, List, [], ◌∷◌}

-- s is t or comes before it
unfoldable pub LexLe : List ℕ → List ℕ → Type 0
LexLe [] t = Unit {0}
LexLe (a ∷ s) [] = ⊥
LexLe (a ∷ s) (b ∷ t) = (a < b) ⊎ ((a ≡ b) × LexLe s t)
