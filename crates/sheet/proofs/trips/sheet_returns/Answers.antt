-- `sheet::trips::sheet_returns` meets its contract.
use mathlib.Core.Path.{refl, sym}
use lib.Seq.{length-take-le}
use borrow.Author.Tests.{le-leb}
use Rattle.outline.specs.Tests.{both, choose}
use Rattle.outline.specs.Judging.{where_good}
use Rattle.outline.specs.Sheet.{fares_in}
use Rattle.outline.specs.SheetJudging.{sheet_check}
use Rattle.outline.specs.Writing.{book_of}
use Rattle.outline.specs.Lending.{write_answer, write_leaves}
use Rattle.sheet.specs.Trips.{sheet_returns}
use Rattle.laws.proofs.Sheet.{sheet_good}
use Rattle.roundtrip.proofs.Trips.{told_wrote, told_not}
use Rattle.sheet.proofs.trips.sheet_returns.Goals as goal

pub slice_bounds-sheet_read-end : goal.slice_bounds-sheet_read-end
unfolding write_answer write_leaves
slice_bounds-sheet_read-end c = (told_wrote (sheet_check c.args.sheet.now) (book_of (fares_in c.args.sheet.now)) c.args.book.now _ _ _ (c.write-wrote.ensures.value, c.write-wrote.ensures.book_after) c.in-Ok.is).fits

pub slice_bounds-sheet_read-end-in-Ok : goal.slice_bounds-sheet_read-end-in-Ok
unfolding write_answer write_leaves
slice_bounds-sheet_read-end-in-Ok c = sym (length-take-le _ _ (told_wrote (sheet_check c.args.sheet.now) (book_of (fares_in c.args.sheet.now)) c.args.book.now _ _ _ (c.write-wrote.ensures.value, c.write-wrote.ensures.book_after) c.in-Ok.is).fits)

pub sheet_read-requires : goal.sheet_read-requires
unfolding write_answer write_leaves
sheet_read-requires c = let t = told_wrote (sheet_check c.args.sheet.now) (book_of (fares_in c.args.sheet.now)) c.args.book.now _ _ _ (c.write-wrote.ensures.value, c.write-wrote.ensures.book_after) c.in-Ok.is in ((sheet_good _).0 t.good, t.front)

pub returns-in-Err : goal.returns-in-Err
unfolding write_answer write_leaves sheet_returns both choose
returns-in-Err c =
    let t = told_not (sheet_check c.args.sheet.now) (book_of (fares_in c.args.sheet.now)) c.args.book.now _ _ _ (c.write-wrote.ensures.value, c.write-wrote.ensures.book_after) c.in-Err.is in
    record { value = rw t.0 refl; book_after = c.write-wrote.ensures.book_after; again_after = refl }

pub returns-in-Ok : goal.returns-in-Ok
unfolding write_answer write_leaves sheet_returns both where_good
returns-in-Ok c =
    let t = told_wrote (sheet_check c.args.sheet.now) (book_of (fares_in c.args.sheet.now)) c.args.book.now _ _ _ (c.write-wrote.ensures.value, c.write-wrote.ensures.book_after) c.in-Ok.is in
    record { value = rw (t.good, le-leb _ _ t.room) c.sheet_read.ensures.value; book_after = c.write-wrote.ensures.book_after; again_after = rw c.sheet_read.ensures.value c.sheet_read.ensures.again_after }
