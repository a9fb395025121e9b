-- "from-station outermost, both rising": lists that rise, and what stations and pairs rise by.
use Rattle.std.specs.Prelude.{ℕ, ◌≡◌, List, [], ◌∷◌, ◌++◌}
use Rattle.outline.specs.declared.Station.{Station}
use Rattle.outline.specs.declared.Question.{Question}
use Rattle.outline.specs.Lexical.{LexLe}
use Rattle.cheapest.specs.Items.{In}

-- s comes before t
abbrev pub Before : List ℕ → List ℕ → Type 0
Before s t = LexLe s t × (s ≡ t → ⊥)

-- each item comes before all that stand after it
unfoldable pub RisingBy : {A : Type 0} → (A → List ℕ) → List A → Type 0
RisingBy rank [] = Unit {0}
RisingBy {A} rank (x ∷ s) = ((y : A) → In y s → Before (rank x) (rank y)) × RisingBy rank s

abbrev pub station_rank : Station → List ℕ
station_rank x = x.company ∷ x.number ∷ []

-- a pair by its from-station, and then by its to-station
abbrev pub pair_rank : Question → List ℕ
pair_rank q = station_rank q.from ++ station_rank q.to
