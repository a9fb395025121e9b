-- The writer without room for a book: it says so, and leaves the lent buffer as it is.
use Prim.Native.Nat.{ℕ, ◌<◌}
use Rattle.std.proofs.Common.{Ok, Err}
use mathlib.Core.Path.{◌≡◌}
use mathlib.Core.List.{List}
use lib.ListN.{length}
use Rattle.outline.specs.declared.Refusal.TheVariants.{NoRoom}
use Rattle.outline.specs.Sheet.{fares_in}
use Rattle.outline.specs.SheetJudging.{sheet_check}
use Rattle.outline.specs.Writing.{book_of}
use Rattle.outline.specs.Lending.{write_answer, write_leaves}
use Rattle.filling.proofs.Answers.{answers_no_room}

pub answers : (s lent : List ℕ) → sheet_check s ≡ Ok tt → length lent < length (book_of (fares_in s)) → Err NoRoom ≡ write_answer s lent
unfolding write_answer
answers s lent e h = (answers_no_room _ _ _ e h).0

pub leaves : (s lent : List ℕ) → sheet_check s ≡ Ok tt → length lent < length (book_of (fares_in s)) → lent ≡ write_leaves s lent
unfolding write_answer write_leaves
leaves s lent e h = (answers_no_room _ _ _ e h).1
