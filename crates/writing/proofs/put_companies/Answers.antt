-- `writing::put_companies` meets its contract.
use Prim.Native.Nat.{ℕ, ◌+◌}
use lib.ListN.{length-take, length-drop}
use Rattle.writing.proofs.Turns.{Turn, turn}
use native.Mathlib.Omega.{arith}
use mathlib.Core.Path.{refl, sym, ap, ◌∙◌}
use Rattle.outline.specs.Tests.{in_order}
use Rattle.outline.specs.Sheet.{companies_in, fares_in}
use Rattle.outline.specs.Writing.{body_in}
use Rattle.laws.proofs.Sheet.{start_first, companies_in_lem}
use Rattle.filling.proofs.InOrder.{order_none, order_more_length, order_turn}
use Rattle.writing.proofs.put_companies.Goals as goal
use Rattle.writing.proofs.put_companies.Goals.{In-loop-c}

-- what a turn meets
met : (c : In-loop-c) → Turn c.args.sheet.numbers.now c.loop-c.c c.loop-c.at
met c = turn _ c.args.sheet.laid_out _ _ (omega (arith, c.companies-n.ensures, companies_in_lem c.args.sheet.numbers.now, c.loop-c-test.true)) c.loop-c.invariant.0

pub loop-c-init : goal.loop-c-init
unfolding in_order
loop-c-init c = (sym (start_first _), refl, order_none (body_in (fares_in c.args.sheet.numbers.now)) _)

pub slice_bounds-put_company-count : goal.slice_bounds-put_company-count
slice_bounds-put_company-count c = let t = met (goal.at.slice_bounds-put_company-count c).In-loop-c in omega (arith, c.loop-c.invariant, c.loop-c.auto.book, c.requires)

pub slice_bounds-put_company-start : goal.slice_bounds-put_company-start
slice_bounds-put_company-start c = let t = met (goal.at.slice_bounds-put_company-start c).In-loop-c in omega (arith, c.loop-c.invariant, c.loop-c.auto.book, c.requires)

pub put_company-requires-clause-at_in_bounds : goal.put_company-requires-clause-at_in_bounds
put_company-requires-clause-at_in_bounds c = let t = met (goal.at.put_company-requires-clause-at_in_bounds c).In-loop-c in simp (length-take, length-drop) (omega (arith, c.loop-c.invariant, c.loop-c.auto.book, c.requires))

pub overflow_add-to : goal.overflow_add-to
overflow_add-to c =
    let t = met (goal.at.overflow_add-to c).In-loop-c in
    let one = c.company_length-to.ensures ∙ sym t.long in
    omega (arith, c.loop-c.invariant.1)

pub loop-c-preserved : goal.loop-c-preserved
loop-c-preserved c =
    let t = met (goal.at.loop-c-preserved c).In-loop-c in
    let one = c.company_length-to.ensures ∙ sym t.long in
    let bodies = body_in (fares_in c.args.sheet.numbers.now) in
    let k = c.loop-c.c in (
      ap (λ (n : ℕ). c.loop-c.at + n) c.table_numbers-at.ensures.0 ∙ t.next,
      omega (arith, c.loop-c.invariant.1, order_more_length bodies k),
      order_turn bodies (companies_in c.args.sheet.numbers.now) k c.args.book.now _ _ _ (omega (arith, c.companies-n.ensures, companies_in_lem c.args.sheet.numbers.now, c.loop-c-test.true)) c.requires c.loop-c.invariant.2 c.loop-c.invariant.1 (rw (← t.body) at c.put_company.ensures),
    )
