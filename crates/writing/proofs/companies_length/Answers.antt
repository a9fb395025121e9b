-- `writing::companies_length` meets its contract.
use Prim.Native.Nat.{ℕ, ◌+◌}
use Rattle.writing.proofs.Turns.{Turn, turn}
use native.Mathlib.Omega.{arith}
use mathlib.Core.Path.{refl, sym, ap, ◌∙◌}
use Rattle.outline.specs.Tests.{in_order}
use Rattle.outline.specs.Sheet.{fares_in}
use Rattle.outline.specs.Writing.{body_in}
use Rattle.laws.proofs.Sheet.{start_first, companies_in_lem}
use Rattle.filling.proofs.InOrder.{order_more_length}
use Rattle.writing.proofs.companies_length.Goals as goal
use Rattle.writing.proofs.companies_length.Goals.{In-loop-c}

-- what a turn meets
met : (c : In-loop-c) → Turn c.args.sheet.numbers.now c.loop-c.c c.loop-c.at
met c = turn _ c.args.sheet.laid_out _ _ (omega (arith, c.companies-c-end.ensures, companies_in_lem c.args.sheet.numbers.now, c.loop-c-test.true)) c.loop-c.invariant.0

pub loop-c-init : goal.loop-c-init
unfolding in_order
loop-c-init c = (sym (start_first _), refl)

pub overflow_add-long : goal.overflow_add-long
overflow_add-long c =
    let t = met (goal.at.overflow_add-long c).In-loop-c in
    let one = c.company_length-long.ensures ∙ sym t.long in
    omega (arith, c.loop-c.invariant.1)

pub loop-c-preserved : goal.loop-c-preserved
loop-c-preserved c =
    let t = met (goal.at.loop-c-preserved c).In-loop-c in
    let one = c.company_length-long.ensures ∙ sym t.long in
    (ap (λ (n : ℕ). c.loop-c.at + n) c.table_numbers-at.ensures.0 ∙ t.next, omega (arith, c.loop-c.invariant.1, order_more_length (body_in (fares_in c.args.sheet.numbers.now)) c.loop-c.c))
