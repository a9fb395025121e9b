-- `sheet::trips::book_returns` meets its contract.
use mathlib.Core.Path.{refl, sym}
use lib.Seq.{length-take-le}
use borrow.Author.Tests.{le-leb}
use Rattle.outline.specs.Tests.{both, choose}
use Rattle.outline.specs.Book.{fares_of}
use Rattle.outline.specs.Judging.{book_check, where_good}
use Rattle.outline.specs.Sheet.{sheet_of}
use Rattle.outline.specs.Lending.{read_answer, read_leaves}
use Rattle.sheet.specs.Trips.{book_returns}
use Rattle.laws.proofs.Judging.{book_good}
use Rattle.roundtrip.proofs.Trips.{told_wrote, told_not}
use Rattle.sheet.proofs.trips.book_returns.Goals as goal

pub slice_bounds-book_written-end : goal.slice_bounds-book_written-end
unfolding read_answer read_leaves
slice_bounds-book_written-end c = (told_wrote (book_check c.args.book.now) (sheet_of (fares_of c.args.book.now)) c.args.sheet.now _ _ _ (c.read-got.ensures.value, c.read-got.ensures.sheet_after) c.in-Ok.is).fits

pub slice_bounds-book_written-end-in-Ok : goal.slice_bounds-book_written-end-in-Ok
unfolding read_answer read_leaves
slice_bounds-book_written-end-in-Ok c = sym (length-take-le _ _ (told_wrote (book_check c.args.book.now) (sheet_of (fares_of c.args.book.now)) c.args.sheet.now _ _ _ (c.read-got.ensures.value, c.read-got.ensures.sheet_after) c.in-Ok.is).fits)

pub book_written-requires : goal.book_written-requires
unfolding read_answer read_leaves
book_written-requires c = let t = told_wrote (book_check c.args.book.now) (sheet_of (fares_of c.args.book.now)) c.args.sheet.now _ _ _ (c.read-got.ensures.value, c.read-got.ensures.sheet_after) c.in-Ok.is in ((book_good _).0 t.good, t.front)

pub returns-in-Err : goal.returns-in-Err
unfolding read_answer read_leaves book_returns both choose
returns-in-Err c =
    let t = told_not (book_check c.args.book.now) (sheet_of (fares_of c.args.book.now)) c.args.sheet.now _ _ _ (c.read-got.ensures.value, c.read-got.ensures.sheet_after) c.in-Err.is in
    record { value = rw t.0 refl; sheet_after = c.read-got.ensures.sheet_after; again_after = refl }

pub returns-in-Ok : goal.returns-in-Ok
unfolding read_answer read_leaves book_returns both where_good
returns-in-Ok c =
    let t = told_wrote (book_check c.args.book.now) (sheet_of (fares_of c.args.book.now)) c.args.sheet.now _ _ _ (c.read-got.ensures.value, c.read-got.ensures.sheet_after) c.in-Ok.is in
    record { value = rw (t.good, le-leb _ _ t.room) c.book_written.ensures.value; sheet_after = c.read-got.ensures.sheet_after; again_after = rw c.book_written.ensures.value c.book_written.ensures.again_after }
