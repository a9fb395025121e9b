-- Document 01, "The fare book": its layout, and what it says. Offsets and sizes stand here and nowhere else.
use Rattle.std.specs.Prelude.{ℕ, zero, suc, ◌+◌, ◌*◌, List, [], ◌∷◌, get_or, drop}
use Rattle.outline.specs.declared.Station.{Station}
use Rattle.outline.specs.declared.Link.{Link}
use Rattle.outline.specs.Tests.{list_of, part}
use Rattle.outline.specs.declared.Rule.{Rule}
use Rattle.outline.specs.Fares.{Table, Fares}
use Rattle.outline.specs.Network.{Network, network_of}

-- "Two-byte numbers have the low byte first."
unfoldable pub word_at : List ℕ → ℕ → ℕ
word_at b at = get_or b at 0 + 256 * get_or b (at + 1) 0

-- "Bytes 0 to 3: layout number (1), companies C, links L, rules R."
abbrev pub header_length : ℕ
header_length = 4

abbrev pub layout_number : List ℕ → ℕ
layout_number b = get_or b 0 0

abbrev pub company_count : List ℕ → ℕ
company_count b = get_or b 1 0

abbrev pub link_count : List ℕ → ℕ
link_count b = get_or b 2 0

abbrev pub rule_count : List ℕ → ℕ
rule_count b = get_or b 3 0

-- "Contents: C + 2 entries of four bytes, an offset and a length, two bytes each: one entry per company in order, then links, then rules."
unfoldable pub offset_of : List ℕ → ℕ → ℕ
offset_of b e = word_at b (4 + 4 * e)

unfoldable pub length_of : List ℕ → ℕ → ℕ
length_of b e = word_at b (4 + 4 * e + 2)

abbrev pub links_entry : List ℕ → ℕ
links_entry b = company_count b

abbrev pub rules_entry : List ℕ → ℕ
rules_entry b = company_count b + 1

-- "The first begins at 4 + 4(C + 2)"
abbrev pub first_body : List ℕ → ℕ
first_body b = 4 + 4 * (company_count b + 2)

-- "the end of the part before": of the contents for the first body, of the body before for any other
unfoldable pub end_before : List ℕ → ℕ → ℕ
end_before b zero = first_body b
end_before b (suc e) = offset_of b e + length_of b e

-- the body that entry e of the contents tells, a part of the book
unfoldable pub body_of : List ℕ → ℕ → List ℕ
body_of b e = part b (offset_of b e) (length_of b e)

-- "Company body: one byte n, then n × n two-byte entries, row by row .. Length 1 + 2n²."
abbrev pub company_length : ℕ → ℕ
company_length n = 1 + 2 * (n * n)

abbrev pub station_count : List ℕ → ℕ
station_count body = get_or body 0 0

unfoldable pub words : List ℕ → List ℕ
words [] = []
words (low ∷ []) = []
words (low ∷ high ∷ rest) = (low + 256 * high) ∷ words rest

unfoldable pub table_of : List ℕ → Table
table_of body = record { stations = station_count body; fares = words (drop 1 body) }

-- where the entry of row i, column j begins in the body of a company of n stations
abbrev pub entry_place : ℕ → ℕ → ℕ → ℕ
entry_place n i j = 1 + 2 * (i * n + j)

-- "Link, four bytes: company, station, company, station."
abbrev pub link_length : ℕ
link_length = 4

abbrev pub station_of : List ℕ → ℕ → Station
station_of body at = record { company = get_or body at 0; number = get_or body (at + 1) 0 }

unfoldable pub link_of : List ℕ → ℕ → Link
link_of body k = record { one = station_of body (link_length * k); other = station_of body (link_length * k + 2) }

-- "Rule, 33 bytes: m ..; four company bytes ..; the amount, two bytes; a map .., five bytes; a map .., five bytes; a map .., sixteen bytes."
abbrev pub rule_length : ℕ
rule_length = 33

unfoldable pub rule_of : List ℕ → ℕ → Rule
rule_of body k = record {
  rides = get_or body (rule_length * k) 0;
  companies = part body (rule_length * k + 1) 4;
  amount = word_at body (rule_length * k + 5);
  boarding = part body (rule_length * k + 7) 5;
  alighting = part body (rule_length * k + 12) 5;
  permitted = part body (rule_length * k + 17) 16;
}

-- what the book says
unfoldable pub fares_of : List ℕ → Fares
fares_of b = record {
  tables = list_of (λ c. table_of (body_of b c)) (company_count b);
  links = list_of (link_of (body_of b (links_entry b))) (link_count b);
  rules = list_of (rule_of (body_of b (rules_entry b))) (rule_count b);
}

unfoldable pub network : List ℕ → Network
network b = network_of (fares_of b)
