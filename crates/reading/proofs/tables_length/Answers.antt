-- `reading::tables_length` meets its contract.
use Prim.Native.Nat.{ℕ}
use lib.ListN.{length}
use Rattle.reading.proofs.Parts.{table_list, TableTurn, table_turn}
use Rattle.outline.specs.Sheet.{table_numbers, tables_sheet}
use native.Mathlib.Omega.{arith}
use mathlib.Core.Path.{◌≡◌, refl, sym, ap, ◌∙◌}
use Rattle.outline.specs.Tests.{in_order}
use Rattle.filling.proofs.InOrder.{order_more_length}
use Rattle.outline.specs.Book.{fares_of}
use Rattle.filling.proofs.Whole.{tables_of, stations_of_network}
use Rattle.laws.proofs.Reading.{network_companies}
use Rattle.reading.proofs.tables_length.Goals as goal
use Rattle.reading.proofs.tables_length.Goals.{In-loop-c}

-- what a turn meets
met : (c : In-loop-c) → TableTurn c.args.book.bytes.now c.loop-c.c
met c = table_turn _ c.args.book.laid_out _ (omega (arith, network_companies c.args.book.bytes.now, c.companies-c-end.ensures, c.loop-c-test.true))

pub loop-c-init : goal.loop-c-init
unfolding in_order
loop-c-init c = refl

pub stations-requires : goal.stations-requires
stations-requires c = omega (arith, c.companies-c-end.ensures, c.loop-c-test.true)

pub overflow_add-long : goal.overflow_add-long
overflow_add-long c = let t = met (goal.at.overflow_add-long c).In-loop-c in omega (arith, c.loop-c.invariant, c.table_numbers-long.ensures.1)

pub loop-c-preserved : goal.loop-c-preserved
loop-c-preserved c =
    let t = met (goal.at.loop-c-preserved c).In-loop-c in
    let b = c.args.book.bytes.now in
    let one = c.table_numbers-long.ensures.0 ∙ ap (λ (n : ℕ). table_numbers n) (c.from.ensures ∙ c.stations.ensures ∙ stations_of_network b c.loop-c.c) ∙ sym t.long in
    omega (arith, c.loop-c.invariant, order_more_length (table_list b) c.loop-c.c)

pub returns : goal.returns
unfolding tables_sheet
returns c =
    let b = c.args.book.bytes.now in
    let e : c.loop-c.c ≡ length (fares_of b).tables = omega (arith, tables_of b, network_companies b, c.companies-c-end.ensures, c.loop-c.auto.c-end, c.loop-c-test.false) in
    c.loop-c.invariant ∙ ap (λ (n : ℕ). length (in_order (table_list b) n)) e
