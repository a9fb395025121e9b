-- What a laid-out book tells the reader of the parts of its sheet: how long they are.
use Prim.Native.Nat.{ℕ, ◌+◌, ◌*◌, ◌≤◌, ◌<◌}
use mathlib.Core.Path.{◌≡◌, sym, ap, ◌∙◌}
use mathlib.Core.List.{List}
use lib.ListN.{length}
use native.Mathlib.Omega.{arith}
use Rattle.outline.specs.Tests.{in_order}
use Rattle.outline.specs.Fares.{table_at}
use Rattle.outline.specs.Book.{company_count, link_count, rule_count, body_of, station_count, table_of, fares_of}
use Rattle.outline.specs.Valid.{LaidOut}
use Rattle.outline.specs.Sheet.{table_numbers, table_sheet, tables_sheet, links_sheet, rules_sheet, sheet_of}
use Rattle.laws.proofs.Reading.{company_long}
use Rattle.layout.specs.Bodies.{CompanySized}
use Rattle.filling.proofs.InOrder.{order_room}
use Rattle.filling.proofs.Sizes.{table_sheet_length}
use Rattle.filling.proofs.Whole.{book_whole, tables_of, links_of, rules_of, table_of_lem, stations_of_lem, tables_sheet_most, links_sheet_length, rules_sheet_length, sheet_length}

pub tables_few : (b : List ℕ) → LaidOut b → length (tables_sheet (fares_of b)) ≤ 25616
tables_few b laid = tables_sheet_most (fares_of b) (book_whole b laid)

pub links_long_of : (b : List ℕ) → LaidOut b → length (links_sheet (fares_of b)) ≡ 4 * link_count b
links_long_of b laid = links_sheet_length (fares_of b) (book_whole b laid) ∙ ap (λ (n : ℕ). 4 * n) (links_of b)

pub sheet_long : (b : List ℕ) → LaidOut b → length (sheet_of (fares_of b)) ≡ 3 + length (tables_sheet (fares_of b)) + length (links_sheet (fares_of b)) + length (rules_sheet (fares_of b))
sheet_long b laid =
    let whole = book_whole b laid in
    omega (arith, sheet_length (fares_of b) whole, links_sheet_length (fares_of b) whole, rules_sheet_length (fares_of b) whole)

pub rules_long_of : (b : List ℕ) → LaidOut b → length (rules_sheet (fares_of b)) ≡ 32 * rule_count b
rules_long_of b laid = rules_sheet_length (fares_of b) (book_whole b laid) ∙ ap (λ (n : ℕ). 32 * n) (rules_of b)

-- ---- a turn of a loop over the companies, the links or the rules

abbrev pub table_list : List ℕ → ℕ → List ℕ
table_list b c = table_sheet (table_at (fares_of b) c)

pub record TableTurn (b : List ℕ) (c : ℕ) : Type 0 where
  pub listed : c < length (fares_of b).tables
  pub table : table_of (body_of b c) ≡ table_at (fares_of b) c
  pub stations : station_count (body_of b c) ≡ (table_at (fares_of b) c).stations
  pub sized : CompanySized (body_of b c)
  pub long : length (table_list b c) ≡ table_numbers (table_at (fares_of b) c).stations
  pub room : length (in_order (table_list b) c) + length (table_list b c) ≤ length (tables_sheet (fares_of b))
  pub most : length (tables_sheet (fares_of b)) ≤ 25616

pub table_turn : (b : List ℕ) → LaidOut b → (c : ℕ) → c < company_count b → TableTurn b c
unfolding tables_sheet
table_turn b laid c h =
    let whole = book_whole b laid in
    let listed : c < length (fares_of b).tables = omega (arith, tables_of b) in
    record {
      listed = listed;
      table = sym (table_of_lem b c h);
      stations = sym (stations_of_lem b c h);
      sized = record { long = company_long b laid c h; few = (laid.companies c h).stations.to };
      long = table_sheet_length (table_at (fares_of b) c) (whole.square c listed);
      room = order_room (table_list b) (length (fares_of b).tables) c listed;
      most = tables_sheet_most (fares_of b) whole;
    }
