-- What a reader or a writer answers, and what then stands in the list that was lent to it.
use Rattle.std.specs.Prelude.{ℕ, List, ◌++◌, length, drop, leb, Result, Ok, Err}
use Rattle.outline.specs.declared.Refusal.{Refusal}
use Rattle.outline.specs.declared.Refusal.TheVariants.{NoRoom}
use Rattle.outline.specs.Tests.{choose}
use Rattle.outline.specs.Refusals.{number_of, place_of, Judged}
use Rattle.outline.specs.Book.{fares_of}
use Rattle.outline.specs.Judging.{book_check}
use Rattle.outline.specs.Sheet.{fares_in, sheet_of}
use Rattle.outline.specs.SheetJudging.{sheet_check}
use Rattle.outline.specs.Writing.{book_of}

-- how many numbers or bytes a reader or a writer wrote, or what is refused
abbrev pub Written : Type 0
Written = Result ℕ Refusal

-- "Reader and writer answer how many numbers or bytes they wrote, 0 on a refusal."
abbrev pub count_of : Written → ℕ
count_of (Ok n) = n
count_of (Err x) = 0

-- the refusal's number and place, 0 where there is none
abbrev pub refusal_of : Written → ℕ
refusal_of (Ok n) = 0
refusal_of (Err x) = number_of x

abbrev pub refusal_place_of : Written → ℕ
refusal_place_of (Ok n) = 0
refusal_place_of (Err x) = place_of x

-- "then 13": "lent buffer shorter than the result"
unfoldable pub answered : Judged → List ℕ → List ℕ → Written
answered (Ok _) result lent = choose (leb (length result) (length lent)) (Ok (length result)) (Err NoRoom)
answered (Err x) result lent = Err x

-- "Bytes or numbers after what was written stay the same."
unfoldable pub filled : List ℕ → List ℕ → List ℕ
filled result lent = result ++ drop (length result) lent

-- "A refusal writes no lent memory"
unfoldable pub leaves : Written → List ℕ → List ℕ → List ℕ
leaves (Ok n) result lent = filled result lent
leaves (Err x) result lent = lent

-- "Reading into a sheet: book first, then 13."
unfoldable pub read_answer : List ℕ → List ℕ → Written
read_answer book lent = answered (book_check book) (sheet_of (fares_of book)) lent

unfoldable pub read_leaves : List ℕ → List ℕ → List ℕ
read_leaves book lent = leaves (read_answer book lent) (sheet_of (fares_of book)) lent

-- "Sheet order: .. then 6, 7, 8; then 13."
unfoldable pub write_answer : List ℕ → List ℕ → Written
write_answer sheet lent = answered (sheet_check sheet) (book_of (fares_in sheet)) lent

unfoldable pub write_leaves : List ℕ → List ℕ → List ℕ
write_leaves sheet lent = leaves (write_answer sheet lent) (book_of (fares_in sheet)) lent
