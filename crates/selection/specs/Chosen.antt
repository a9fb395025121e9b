-- A selection of runs as the code holds it.
use Rattle.std.specs.Prelude.{ℕ, ◌*◌, ◌≤◌, ◌≡◌, List, [], ◌∷◌, take, ltb, leb}
use Rattle.outline.specs.declared.Run.{Run}
use Rattle.outline.specs.Tests.{choose}
use Rattle.outline.specs.Book.{network}
use Rattle.outline.specs.Selections.{Earn, total}
use Rattle.outline.specs.Price.{earn_on}
use Rattle.routes.specs.declared.Route.{Route}
use Rattle.routes.specs.Held.{rides_of}
use Rattle.selection.specs.declared.Selection.{Selection}

-- what the rules of a book earn on the runs of a route
abbrev pub earn_in : List ℕ → Route → Earn
earn_in b r = earn_on (network b) (rides_of r)

abbrev pub runs_in : Selection → List Run
runs_in s = take s.count (s.one ∷ s.two ∷ [])

-- s, unless it earns less than t, or as much with more runs
unfoldable pub rather_than : Selection → Selection → Selection
rather_than s t =
    choose (ltb s.total t.total) t
    (choose (ltb t.total s.total) s
    (choose (leb s.count t.count) s t))

-- a selection of at most so many runs, with what it earns
pub record Sound (earn : Earn) (most : ℕ) (s : Selection) : Type 0 where
  pub earned : s.total ≡ total earn (runs_in s)
  pub small : s.total ≤ 65535 * s.count
  pub few : s.count ≤ most
  pub two : s.count ≤ 2

-- s holds these runs
pub record Chosen (earn : Earn) (most : ℕ) (runs : List Run) (s : Selection) : Type 0 where
  pub sound : Sound earn most s
  pub is : runs_in s ≡ runs
