-- `reading::fill_tables` meets its contract.
use mathlib.Core.List.{List}
use Prim.Native.Nat.{ℕ}
use lib.ListN.{length, length-take, length-drop}
use Rattle.reading.proofs.Parts.{table_list, TableTurn, table_turn}
use Rattle.outline.specs.Sheet.{table_numbers, tables_sheet}
use native.Mathlib.Omega.{arith}
use mathlib.Core.Path.{◌≡◌, refl, sym, ap, ◌∙◌}
use Rattle.outline.specs.Lending.{filled}
use Rattle.outline.specs.Tests.{in_order}
use Rattle.filling.proofs.InOrder.{order_none, order_more_length, order_turn}
use Rattle.outline.specs.Book.{station_count, table_of, fares_of}
use Rattle.filling.proofs.Whole.{tables_of}
use Rattle.laws.proofs.Reading.{network_companies, company_in}
use Rattle.reading.proofs.fill_tables.Goals as goal
use Rattle.reading.proofs.fill_tables.Goals.{In-loop-c}

-- what a turn meets
met : (c : In-loop-c) → TableTurn c.args.book.bytes.now c.loop-c.c
met c = table_turn _ c.args.book.laid_out _ (omega (arith, network_companies c.args.book.bytes.now, c.companies-c-end.ensures, c.loop-c-test.true))

pub body-requires : goal.body-requires
body-requires c =
    let w = company_in _ c.args.book.laid_out _ (omega (arith, network_companies c.args.book.bytes.now, c.companies-c-end.ensures, c.loop-c-test.true)) in
    rw c.from.ensures (record { listed = w.listed; e_in_bounds = w.inside })

pub loop-c-init : goal.loop-c-init
unfolding in_order
loop-c-init c = (refl, order_none (table_list c.args.book.bytes.now) _)

pub offset_bounds-sheet-at : goal.offset_bounds-sheet-at
offset_bounds-sheet-at c = let t = met (goal.at.offset_bounds-sheet-at c).In-loop-c in omega (arith, c.loop-c.invariant)

pub slice_bounds-put_table-count : goal.slice_bounds-put_table-count
slice_bounds-put_table-count c = let t = met (goal.at.slice_bounds-put_table-count c).In-loop-c in omega (arith, c.loop-c.invariant, c.loop-c.auto.sheet, c.requires)

pub slice_bounds-put_table-start : goal.slice_bounds-put_table-start
slice_bounds-put_table-start c = let t = met (goal.at.slice_bounds-put_table-start c).In-loop-c in omega (arith, c.loop-c.invariant, c.loop-c.auto.sheet, c.requires)

pub invariant_of-body : goal.invariant_of-body
invariant_of-body c =
    let t = met (goal.at.invariant_of-body c).In-loop-c in
    record { sized = rw (c.body.ensures.result_value, c.from.ensures) t.sized }

pub put_table-requires : goal.put_table-requires
put_table-requires c =
    let t = met (goal.at.put_table-requires c).In-loop-c in
    let body = rw c.from.ensures at c.body.ensures.result_value in
    let n = ap (λ (x : List ℕ). table_numbers (station_count x)) body ∙ ap (λ (m : ℕ). table_numbers m) t.stations in
    simp (length-take, length-drop) (omega (arith, c.loop-c.invariant, c.loop-c.auto.sheet, c.requires))

pub overflow_add-at : goal.overflow_add-at
overflow_add-at c = let t = met (goal.at.overflow_add-at c).In-loop-c in omega (arith, c.loop-c.invariant, c.table_numbers-at.ensures.1)

pub loop-c-preserved : goal.loop-c-preserved
unfolding tables_sheet
loop-c-preserved c =
    let t = met (goal.at.loop-c-preserved c).In-loop-c in
    let body = rw c.from.ensures at c.body.ensures.result_value in
    let b = c.args.book.bytes.now in
    let k = c.loop-c.c in
    let one = c.table_numbers-at.ensures.0 ∙ ap (λ (n : ℕ). table_numbers n) (c.from-in-loop-c.ensures ∙ c.stations.ensures ∙ ap station_count body ∙ t.stations) ∙ sym t.long in (
      omega (arith, c.loop-c.invariant.0, order_more_length (table_list b) k),
      order_turn (table_list b) (length (fares_of b).tables) k c.args.sheet.now _ _ _ t.listed c.requires c.loop-c.invariant.1 c.loop-c.invariant.0 (rw (ap table_of body ∙ t.table) at c.put_table.ensures),
    )

pub returns : goal.returns
unfolding tables_sheet
returns c =
    let b = c.args.book.bytes.now in
    let e : c.loop-c.c ≡ length (fares_of b).tables = omega (arith, tables_of b, network_companies b, c.companies-c-end.ensures, c.loop-c.auto.c-end, c.loop-c-test.false) in
    c.loop-c.invariant.1 ∙ ap (λ (n : ℕ). filled (in_order (table_list b) n) c.args.sheet.now) e
