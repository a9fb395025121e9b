-- The rows of the pair lister's output, and the order in which they are put.
use Rattle.std.specs.Prelude.{ℕ, zero, suc, ◌+◌, Bool, true, false, List, [], ◌++◌, ltb, Ok, Err}
use Rattle.outline.specs.Refusals.{Judged}
use Rattle.outline.specs.declared.Station.{Station}
use Rattle.outline.specs.Tests.{choose}
use Rattle.outline.specs.Network.{Network}
use Rattle.outline.specs.Book.{network}
use Rattle.outline.specs.Valid.{ValidBook}
use Rattle.outline.specs.Questions.{Known}
use Rattle.outline.specs.Lister.{station, refused_line}
use Rattle.listing.specs.Lines.{lines_from}
use Rattle.rows.specs.declared.Row.{Row}
use Rattle.rows.specs.declared.Row.TheVariants.{Refusal, From, End}

-- a good book's rows begin with its first station; "A refused book gives one line"
unfoldable pub first_row : Judged → Row
first_row (Ok _) = From (station 0 0)
first_row (Err x) = Refusal x

-- whether there is something to put
unfoldable pub is_row : Row → Bool
is_row (Refusal x) = true
is_row (From x) = true
is_row End = false

-- what a row puts: the lines from its station, or the refusal's
unfoldable pub row_text : Network → Row → List ℕ
row_text N (Refusal x) = refused_line x
row_text N (From x) = lines_from N x
row_text N End = []

-- the next station of the company, or else the first of the next company
unfoldable pub row_after_from : Network → Station → Row
row_after_from N x =
    choose (ltb (x.number + 1) (N.stations x.company))
    (From (station x.company (x.number + 1)))
    (choose (ltb (x.company + 1) N.companies) (From (station (x.company + 1) 0)) End)

unfoldable pub row_after : Network → Row → Row
row_after N (Refusal x) = End
row_after N (From x) = row_after_from N x
row_after N End = End

-- the texts of n rows, one after the other
unfoldable pub rows_text : Network → ℕ → Row → List ℕ
rows_text N zero row = []
rows_text N (suc n) row = row_text N row ++ rows_text N n (row_after N row)

-- a row that a book has
unfoldable pub Due : List ℕ → Row → Type 0
Due b (Refusal x) = Unit
Due b (From x) = ValidBook b × Known (network b) x
Due b End = Unit
