-- `bodies::put_company` meets its contract.
use native.Mathlib.Omega.{arith}
use mathlib.Core.Path.{◌≡◌, refl, ap, ◌∙◌}
use Prim.Native.Nat.{ℕ}
use Rattle.outline.specs.Lending.{filled}
use lib.ListN.{get_or, length-set, length-take, length-drop}
use mathlib.Core.List.{[], ◌∷◌}
use Rattle.outline.specs.Sheet.{table_in}
use Rattle.outline.specs.Writing.{bytes_of_words, table_bytes}
use Rattle.filling.proofs.Filled.{one_store, filled_lent}
use Rattle.filling.proofs.Bytes.{length-bytes}
use Rattle.laws.proofs.Sheet.{square_in}
use Rattle.bodies.proofs.put_company.Goals as goal

pub put_words-requires : goal.put_words-requires
unfolding table_in
put_words-requires c =
    let long = square_in c.args.table.sheet.now c.args.table.at c.args.table.inside in
    rw c.fares.ensures (simp (length-take, length-drop, length-set) (omega (arith, c.requires.at_in_bounds, long)))

pub returns : goal.returns
unfolding table_bytes table_in
returns c =
    let s = c.args.table.sheet.now in
    let at = c.args.table.at in
    let long = square_in s at c.args.table.inside in
    let n : c.stations.result ≡ get_or s at 0 = c.stations.ensures in
    let words = bytes_of_words (table_in s at).fares in
    let first = one_store c.stations.result c.args.book.now (omega (arith, c.requires.at_in_bounds)) in
    filled_lent (c.stations.result ∷ []) words c.args.book.now _ _ 1 first refl (omega (arith, c.requires.at_in_bounds, long, length-bytes (table_in s at).fares)) (rw c.fares.ensures at c.put_words.ensures)
    ∙ ap (λ (m : ℕ). filled (m ∷ words) c.args.book.now) n
