-- When a sheet, and when a book, comes back from its round trip: where it is valid and both lent lists have room.
use Rattle.std.specs.Prelude.{ℕ, Bool, false, List, length, leb}
use Rattle.outline.specs.Tests.{both}
use Rattle.outline.specs.Book.{fares_of}
use Rattle.outline.specs.Judging.{book_check, where_good}
use Rattle.outline.specs.Sheet.{fares_in, sheet_of}
use Rattle.outline.specs.SheetJudging.{sheet_check}
use Rattle.outline.specs.Writing.{book_of}

unfoldable pub sheet_returns : List ℕ → List ℕ → List ℕ → Bool
sheet_returns sheet book again = both (where_good (sheet_check sheet) (leb (length (book_of (fares_in sheet))) (length book)) false) (leb (length sheet) (length again))

unfoldable pub book_returns : List ℕ → List ℕ → List ℕ → Bool
book_returns book sheet again = both (where_good (book_check book) (leb (length (sheet_of (fares_of book))) (length sheet)) false) (leb (length book) (length again))
