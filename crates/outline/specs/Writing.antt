-- Document 01, "The fare book": the book that says what a sheet says.
use Rattle.std.specs.Prelude.{ℕ, ◌+◌, ◌*◌, ◌/◌, ◌%◌, List, [], ◌∷◌, ◌++◌, length, ltb, eqb}
use Rattle.outline.specs.declared.Link.{Link}
use Rattle.outline.specs.Tests.{choose, in_order}
use Rattle.outline.specs.declared.Rule.{Rule}
use Rattle.outline.specs.Fares.{Table, Fares, table_at, link_at, rule_at}

-- "Two-byte numbers have the low byte first."
unfoldable pub two_bytes : ℕ → List ℕ
two_bytes x = x % 256 ∷ x / 256 ∷ []

unfoldable pub bytes_of_words : List ℕ → List ℕ
bytes_of_words [] = []
bytes_of_words (x ∷ rest) = two_bytes x ++ bytes_of_words rest

-- "Company body: one byte n, then n × n two-byte entries, row by row"
unfoldable pub table_bytes : Table → List ℕ
table_bytes t = t.stations ∷ bytes_of_words t.fares

-- "Link, four bytes: company, station, company, station."
unfoldable pub link_bytes : Link → List ℕ
link_bytes l = l.one.company ∷ l.one.number ∷ l.other.company ∷ l.other.number ∷ []

-- "Rule, 33 bytes: m ..; four company bytes ..; the amount, two bytes; a map .., five bytes; a map .., five bytes; a map .., sixteen bytes."
unfoldable pub rule_bytes : Rule → List ℕ
rule_bytes r = (r.rides ∷ r.companies) ++ (two_bytes r.amount ++ (r.boarding ++ (r.alighting ++ r.permitted)))

unfoldable pub links_bytes : Fares → List ℕ
links_bytes F = in_order (λ k. link_bytes (link_at F k)) (length F.links)

unfoldable pub rules_bytes : Fares → List ℕ
rules_bytes F = in_order (λ k. rule_bytes (rule_at F k)) (length F.rules)

-- "one entry per company in order, then links, then rules": the body that entry e tells
unfoldable pub body_in : Fares → ℕ → List ℕ
body_in F e = choose (ltb e (length F.tables)) (table_bytes (table_at F e)) (choose (eqb e (length F.tables)) (links_bytes F) (rules_bytes F))

-- "Bytes 0 to 3: layout number (1), companies C, links L, rules R."
unfoldable pub header_bytes : Fares → List ℕ
header_bytes F = 1 ∷ length F.tables ∷ length F.links ∷ length F.rules ∷ []

-- "Bodies lie in the order of the contents without gaps. The first begins at 4 + 4(C + 2)"
abbrev pub offset_in : Fares → ℕ → ℕ
offset_in F e = 4 + 4 * (length F.tables + 2) + length (in_order (body_in F) e)

-- "entries of four bytes, an offset and a length, two bytes each"
unfoldable pub entry_bytes : Fares → ℕ → List ℕ
entry_bytes F e = two_bytes (offset_in F e) ++ two_bytes (length (body_in F e))

-- "The contents come first and the bodies after them."
unfoldable pub book_of : Fares → List ℕ
book_of F = header_bytes F ++ (in_order (entry_bytes F) (length F.tables + 2) ++ in_order (body_in F) (length F.tables + 2))
