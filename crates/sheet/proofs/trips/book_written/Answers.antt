-- `sheet::trips::book_written` meets its contract.
use native.Mathlib.Omega.{arith}
use Rattle.std.proofs.Common.{Ok}
use mathlib.Core.Path.{sym, ◌∙◌}
use lib.Seq.{length-take-le}
use Rattle.roundtrip.proofs.Trips.{book_came, told_wrote, came_not, came_back}
use Rattle.sheet.proofs.Compared.{same}
use Rattle.sheet.proofs.trips.book_written.Goals as goal

pub slice_bounds-eq-end : goal.slice_bounds-eq-end
slice_bounds-eq-end c = (told_wrote (Ok tt) _ _ _ _ _ (book_came c.args.book.now _ c.args.again.now _ _ c.requires.0 (λ i. omega (arith, c.type_inv.book i)) c.requires.1 c.write-wrote.ensures.value c.write-wrote.ensures.book_after) c.in-Ok.is).fits

pub slice_bounds-eq-end-in-Ok : goal.slice_bounds-eq-end-in-Ok
slice_bounds-eq-end-in-Ok c = sym (length-take-le _ _ (told_wrote (Ok tt) _ _ _ _ _ (book_came c.args.book.now _ c.args.again.now _ _ c.requires.0 (λ i. omega (arith, c.type_inv.book i)) c.requires.1 c.write-wrote.ensures.value c.write-wrote.ensures.book_after) c.in-Ok.is).fits)

pub returns-in-Err : goal.returns-in-Err
returns-in-Err c = let w = came_not _ _ _ _ _ (book_came c.args.book.now _ c.args.again.now _ _ c.requires.0 (λ i. omega (arith, c.type_inv.book i)) c.requires.1 c.write-wrote.ensures.value c.write-wrote.ensures.book_after) c.in-Err.is in record { value = w.0; again_after = w.1 }

pub returns-in-Ok : goal.returns-in-Ok
returns-in-Ok c =
    let a = book_came c.args.book.now _ c.args.again.now _ _ c.requires.0 (λ i. omega (arith, c.type_inv.book i)) c.requires.1 c.write-wrote.ensures.value c.write-wrote.ensures.book_after in
    let e = c.in-Ok.is in
    let t = came_back _ _ _ _ _ a e in
    record { value = c.eq.ensures ∙ same _ _ (told_wrote (Ok tt) _ _ _ _ _ a e).front ∙ t.0; again_after = t.1 }
