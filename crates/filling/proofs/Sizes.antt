-- How long the parts of a sheet and of a book are.
use Prim.Native.Nat.{◌*◌}
use mathlib.Core.Path.{◌≡◌, refl}
use native.Mathlib.Omega.{arith}
use lib.ListN.{length, length-append}
use Rattle.outline.specs.declared.Link.{Link}
use Rattle.outline.specs.declared.Rule.{Rule}
use Rattle.outline.specs.Fares.{Table}
use Rattle.outline.specs.Book.{company_length, link_length, rule_length}
use Rattle.outline.specs.Sheet.{table_numbers, link_numbers, rule_numbers, table_sheet, link_sheet, rule_sheet}
use Rattle.outline.specs.Writing.{two_bytes, table_bytes, link_bytes, rule_bytes}
use Rattle.laws.proofs.Reading.{RuleSized}
use Rattle.filling.proofs.Bytes.{length-bytes}

-- a table with an entry for each pair of stations
abbrev pub Square : Table → Type 0
Square t = length t.fares ≡ t.stations * t.stations

pub table_sheet_length : (t : Table) → Square t → length (table_sheet t) ≡ table_numbers t.stations
unfolding table_sheet
table_sheet_length t h = omega arith

pub table_bytes_length : (t : Table) → Square t → length (table_bytes t) ≡ company_length t.stations
unfolding table_bytes
table_bytes_length t h = omega (arith, length-bytes t.fares)

pub link_sheet_length : (l : Link) → length (link_sheet l) ≡ link_numbers
unfolding link_sheet
link_sheet_length l = refl

pub link_bytes_length : (l : Link) → length (link_bytes l) ≡ link_length
unfolding link_bytes
link_bytes_length l = refl

pub rule_sheet_length : (r : Rule) → RuleSized r → length (rule_sheet r) ≡ rule_numbers
unfolding rule_sheet
rule_sheet_length r h = simp length-append (omega (arith, h.companies, h.boarding, h.alighting, h.permitted))

pub rule_bytes_length : (r : Rule) → RuleSized r → length (rule_bytes r) ≡ rule_length
unfolding rule_bytes two_bytes
rule_bytes_length r h = simp length-append (omega (arith, h.companies, h.boarding, h.alighting, h.permitted))
