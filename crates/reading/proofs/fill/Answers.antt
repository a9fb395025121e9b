-- `reading::fill` meets its contract.
use Prim.Native.Nat.{ℕ, ◌+◌}
use lib.ListN.{length, length-append}
use Rattle.reading.proofs.Parts.{links_long_of, sheet_long}
use native.Mathlib.Omega.{arith}
use mathlib.Core.Path.{◌≡◌, refl, ap, ◌∙◌}
use mathlib.Core.List.{List, [], ◌∷◌, ◌++◌, append_assoc}
use Rattle.outline.specs.Lending.{filled}
use Rattle.outline.specs.Book.{fares_of, network}
use Rattle.outline.specs.Sheet.{counts_sheet, tables_sheet, links_sheet, rules_sheet, sheet_of}
use Rattle.filling.proofs.Filled.{filled_lent}
use Rattle.laws.proofs.Reading.{network_links}
use Rattle.outline.specs.Network.{network_of}
use Rattle.reading.proofs.fill.Goals as goal

pub returns : goal.returns
unfolding sheet_of counts_sheet network network_of
returns c =
    let b = c.args.book.bytes.now in
    let long = sheet_long b c.args.book.laid_out in
    let links = links_long_of b c.args.book.laid_out in
    let many = network_links b in
    let F = fares_of b in
    let d = c.args.sheet.now in
    let tables = 3 + c.tables_length.result in
    let changes = tables + c.links_numbers.result in
    let counts : filled (c.companies.result ∷ c.links-2.result ∷ c.rules.result ∷ []) d ≡ filled (counts_sheet F) d = rw (c.companies.ensures, c.links-2.ensures, c.rules.ensures) refl in
    let e1 = filled_lent (counts_sheet F) (tables_sheet F) d _ _ 3 (c.put_counts.ensures ∙ counts) refl (omega arith) c.fill_tables.ensures in
    let l2 : tables ≡ length (counts_sheet F ++ tables_sheet F) = simp length-append (omega arith) in
    let e2 = filled_lent (counts_sheet F ++ tables_sheet F) (links_sheet F) d _ _ tables e1 l2 (omega arith) c.fill_links.ensures in
    let l3 : changes ≡ length ((counts_sheet F ++ tables_sheet F) ++ links_sheet F) = simp length-append (omega arith) in
    filled_lent ((counts_sheet F ++ tables_sheet F) ++ links_sheet F) (rules_sheet F) d _ _ changes e2 l3 (omega arith) c.fill_rules.ensures
    ∙ ap (λ (x : List ℕ). filled x d) (simp append_assoc)
