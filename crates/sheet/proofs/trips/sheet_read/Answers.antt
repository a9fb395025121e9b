-- `sheet::trips::sheet_read` meets its contract.
use mathlib.Core.Path.{sym, ◌∙◌}
use Rattle.std.proofs.Common.{Ok}
use lib.Seq.{length-take-le}
use Rattle.roundtrip.proofs.Trips.{sheet_came, told_wrote, came_not, came_back}
use Rattle.sheet.proofs.Compared.{same}
use Rattle.sheet.proofs.trips.sheet_read.Goals as goal

pub slice_bounds-eq-end : goal.slice_bounds-eq-end
slice_bounds-eq-end c = (told_wrote (Ok tt) _ _ _ _ _ (sheet_came c.args.sheet.now _ c.args.again.now _ _ c.requires.0 c.requires.1 c.read-got.ensures.value c.read-got.ensures.sheet_after) c.in-Ok.is).fits

pub slice_bounds-eq-end-in-Ok : goal.slice_bounds-eq-end-in-Ok
slice_bounds-eq-end-in-Ok c = sym (length-take-le _ _ (told_wrote (Ok tt) _ _ _ _ _ (sheet_came c.args.sheet.now _ c.args.again.now _ _ c.requires.0 c.requires.1 c.read-got.ensures.value c.read-got.ensures.sheet_after) c.in-Ok.is).fits)

pub returns-in-Err : goal.returns-in-Err
returns-in-Err c = let w = came_not _ _ _ _ _ (sheet_came c.args.sheet.now _ c.args.again.now _ _ c.requires.0 c.requires.1 c.read-got.ensures.value c.read-got.ensures.sheet_after) c.in-Err.is in record { value = w.0; again_after = w.1 }

pub returns-in-Ok : goal.returns-in-Ok
returns-in-Ok c =
    let a = sheet_came c.args.sheet.now _ c.args.again.now _ _ c.requires.0 c.requires.1 c.read-got.ensures.value c.read-got.ensures.sheet_after in
    let e = c.in-Ok.is in
    let t = came_back _ _ _ _ _ a e in
    record { value = c.eq.ensures ∙ same _ _ (told_wrote (Ok tt) _ _ _ _ _ a e).front ∙ t.0; again_after = t.1 }
