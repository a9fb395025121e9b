-- `numbers::put_table` meets its contract.
use native.Mathlib.Omega.{arith}
use mathlib.Core.Path.{◌≡◌, refl, ap, ◌∙◌}
use Prim.Native.Nat.{ℕ}
use Rattle.outline.specs.Lending.{filled}
use mathlib.Core.List.{[], ◌∷◌}
use Rattle.outline.specs.Book.{station_count, table_of}
use Rattle.outline.specs.Sheet.{table_sheet}
use Rattle.laws.proofs.Reading.{fares_length}
use Rattle.filling.proofs.Filled.{one_store, filled_lent}
use Rattle.numbers.proofs.put_table.Goals as goal

pub returns : goal.returns
unfolding table_sheet table_of
returns c =
    let long = fares_length c.args.body.bytes.now c.args.body.sized.long in
    let n : c.from.result ≡ station_count c.args.body.bytes.now = c.from.ensures ∙ c.stations.ensures in
    let first = one_store c.from.result c.args.sheet.now (omega (arith, c.requires)) ∙ ap (λ (x : ℕ). filled (x ∷ []) c.args.sheet.now) n in
    filled_lent (station_count c.args.body.bytes.now ∷ []) (table_of c.args.body.bytes.now).fares c.args.sheet.now _ _ 1 first refl (omega (arith, c.requires)) c.put_fares.ensures
