-- `sheet_check::parts::judge_companies` meets its contract.
use Rattle.std.proofs.Common.{ℕ, ◌+◌, get_or, refl, sym, ap, ap₂, ◌∙◌, arith}
use Rattle.laws.proofs.Firsts.{first_more, first_handed_on}
use Rattle.laws.proofs.Sheet.{start_first, start_more, numbers_good}
use Rattle.outline.specs.Sheet.{table_numbers}
use Rattle.outline.specs.Refusals.{first_below}
use Rattle.sheet_check.proofs.parts.judge_companies.Goals as goal

pub loop-c-init : goal.loop-c-init
unfolding first_below
loop-c-init c = (sym (start_first _), refl)

pub returns-in_err-judge_company : goal.returns-in_err-judge_company
returns-in_err-judge_company c = first_handed_on _ _ _ _ c.loop-c.invariant.1 (omega arith) c.in_err-judge_company.ensures c.from_residual.ensures.1

pub offset_bounds-sheet-at : goal.offset_bounds-sheet-at
offset_bounds-sheet-at c = let w = (numbers_good _ _ (sym c.in_ok-judge_company.ensures)).inside in let e = c.loop-c.invariant.0 in omega arith

pub bounds-sheet-at : goal.bounds-sheet-at
bounds-sheet-at c = let w = (numbers_good _ _ (sym c.in_ok-judge_company.ensures)).inside in let e = c.loop-c.invariant.0 in omega arith

pub overflow_add-at : goal.overflow_add-at
overflow_add-at c = let w = (numbers_good _ _ (sym c.in_ok-judge_company.ensures)).inside in let e = c.loop-c.invariant.0 in omega (arith, c.table_numbers-at.ensures.1)

pub loop-c-preserved : goal.loop-c-preserved
loop-c-preserved c =
    let at = c.loop-c.invariant.0 in
    let plus : ℕ → ℕ → ℕ = λ x y. x + y in
    (ap₂ plus at (c.table_numbers-at.ensures.0 ∙ ap (λ (i : ℕ). table_numbers (get_or c.args.sheet.now i 0)) at) ∙ sym (start_more _ _), first_more _ _ c.loop-c.invariant.1 (sym c.in_ok-judge_company.ensures))
