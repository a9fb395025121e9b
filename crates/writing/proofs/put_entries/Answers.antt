-- `writing::put_entries` meets its contract.
use lib.ListN.{length-take, length-drop}
use Rattle.writing.proofs.Turns.{Turn, turn, parts}
use native.Mathlib.Omega.{arith}
use mathlib.Core.Path.{◌≡◌, sym, ap, ◌∙◌}
use Prim.Native.Nat.{ℕ, ◌+◌}
use Rattle.outline.specs.Tests.{in_order}
use Rattle.outline.specs.Sheet.{companies_in, fares_in}
use Rattle.outline.specs.Writing.{body_in, offset_in, entry_bytes}
use Rattle.laws.proofs.Sheet.{start_first, companies_in_lem}
use Rattle.filling.proofs.InOrder.{order_none, order_more_length, order_turn_sized}
use Rattle.filling.proofs.Whole.{sheet_whole, entry_length}
use Rattle.writing.proofs.put_entries.Goals as goal
use Rattle.writing.proofs.put_entries.Goals.{In-loop-e}

-- what a turn meets
met : (c : In-loop-e) → Turn c.args.sheet.numbers.now c.loop-e.e c.loop-e.at
met c = turn _ c.args.sheet.laid_out _ _ (omega (arith, c.companies-e-end.ensures, companies_in_lem c.args.sheet.numbers.now, c.loop-e-test.true)) c.loop-e.invariant.0

pub loop-e-init : goal.loop-e-init
unfolding in_order
loop-e-init c = (sym (start_first _), omega (arith, c.first_body-offset.ensures, companies_in_lem c.args.sheet.numbers.now), order_none (entry_bytes (fares_in c.args.sheet.numbers.now)) _)

pub put_entry-requires : goal.put_entry-requires
put_entry-requires c =
    let t = met (goal.at.put_entry-requires c).In-loop-e in
    let one = c.company_length-long.ensures ∙ sym t.long in
    let s = c.args.sheet.numbers.now in
    let p = parts s c.args.sheet.laid_out in
    (omega (arith, c.loop-e.invariant.1, companies_in_lem s), omega arith, simp (length-take, length-drop) (omega (arith, c.from-to.ensures, c.companies-e-end.ensures, companies_in_lem c.args.sheet.numbers.now, c.loop-e-test.true, c.loop-e.auto.book, c.requires)))

pub overflow_add-offset : goal.overflow_add-offset
overflow_add-offset c =
    let t = met (goal.at.overflow_add-offset c).In-loop-e in
    let one = c.company_length-long.ensures ∙ sym t.long in
    let s = c.args.sheet.numbers.now in
    let p = parts s c.args.sheet.laid_out in
    omega (arith, c.loop-e.invariant.1, companies_in_lem s)

pub loop-e-preserved : goal.loop-e-preserved
unfolding entry_bytes
loop-e-preserved c =
    let t = met (goal.at.loop-e-preserved c).In-loop-e in
    let one = c.company_length-long.ensures ∙ sym t.long in
    let s = c.args.sheet.numbers.now in
    let F = fares_in s in
    let k = c.loop-e.e in
    let entry : c.loop-e.offset ≡ offset_in F k = c.loop-e.invariant.1 in (
      ap (λ (n : ℕ). c.loop-e.at + n) c.table_numbers-at.ensures.0 ∙ t.next,
      omega (arith, entry, one, order_more_length (body_in F) k),
      order_turn_sized (entry_bytes F) 4 (companies_in s) k c.args.book.now _ _ _ (λ e h. entry_length F (sheet_whole s c.args.sheet.laid_out) e)
          (omega (arith, c.companies-e-end.ensures, companies_in_lem c.args.sheet.numbers.now, c.loop-e-test.true)) c.requires c.loop-e.invariant.2 (omega (arith, c.from-to.ensures)) (rw (entry, one) at c.put_entry.ensures),
    )
