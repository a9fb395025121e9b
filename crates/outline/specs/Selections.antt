-- Document 01, "Price": the selection of discounted runs that counts. Of a rule only what it earns on a run is used.
use Rattle.std.specs.Prelude.{ℕ, ◌+◌, ◌≤◌, ◌<◌, ◌≡◌, ◌⊎◌, Option, Some, None, List, [], ◌∷◌, length}
use Rattle.outline.specs.declared.Run.{Run}
use Rattle.outline.specs.Numbers.{least_run, most_run}
use Rattle.outline.specs.Tests.{Within}
use Rattle.outline.specs.Lexical.{LexLe}

-- what a rule earns on a run, told by the run's first ride, its number of rides and the rule's number
abbrev pub Earn : Type 0
Earn = ℕ → ℕ → ℕ → Option ℕ

abbrev pub earned_by : Earn → Run → Option ℕ
earned_by earn p = earn p.first p.rides p.rule

unfoldable pub yen : Option ℕ → ℕ
yen None = 0
yen (Some y) = y

-- of the n rides of a route, "a run is two to four rides in a row", here none before ride `from`; a rule pays it
pub record Discounted (earn : Earn) (rules n from : ℕ) (p : Run) : Type 0 where
  pub after : from ≤ p.first
  pub long : Within least_run p.rides most_run
  pub inside : p.first + p.rides ≤ n
  pub known : p.rule < rules
  pub pays : earned_by earn p ≡ None → ⊥

-- "Each ride belongs to at most one discounted run": each run begins where the one before has ended, or after that
unfoldable pub Apart : Earn → ℕ → ℕ → ℕ → List Run → Type 0
Apart earn rules n from [] = Unit {0}
Apart earn rules n from (p ∷ s) = Discounted earn rules n from p × Apart earn rules n (p.first + p.rides) s

-- "separate ones all count"
unfoldable pub total : Earn → List Run → ℕ
total earn [] = 0
total earn (p ∷ s) = yen (earned_by earn p) + total earn s

-- "the .. list of (first ride, m, rule number)"
unfoldable pub numbers : List Run → List ℕ
numbers [] = []
numbers (p ∷ s) = p.first ∷ p.rides ∷ p.rule ∷ numbers s

-- "the greatest total ..  Among equal totals the selection with fewest runs counts, then the least list of (first ride, m, rule number)
-- read left to right."
abbrev pub Counts : Earn → List Run → List Run → Type 0
Counts earn s t =
    (total earn t < total earn s)
    ⊎ ((total earn s ≡ total earn t) × ((length s < length t) ⊎ ((length s ≡ length t) × LexLe (numbers s) (numbers t))))

-- of all selections of runs of a route of n rides, s is the one that counts
pub record Best (earn : Earn) (rules n : ℕ) (s : List Run) : Type 0 where
  pub apart : Apart earn rules n 0 s
  pub first : (t : List Run) → Apart earn rules n 0 t → Counts earn s t
