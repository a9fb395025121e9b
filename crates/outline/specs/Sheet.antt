-- Document 01: "The sheet is a lent list of 16-bit numbers: C, L, R; per company n and its n² fares; per link four numbers; per rule 32
-- numbers (the amount is one number). It ends exactly there." Places and sizes in a sheet stand here and nowhere else.
use Rattle.std.specs.Prelude.{ℕ, zero, suc, ◌+◌, ◌*◌, List, [], ◌∷◌, ◌++◌, length, get_or}
use Rattle.outline.specs.declared.Station.{Station}
use Rattle.outline.specs.declared.Link.{Link}
use Rattle.outline.specs.Tests.{list_of, in_order, part}
use Rattle.outline.specs.declared.Rule.{Rule}
use Rattle.outline.specs.Fares.{Table, Fares, table_at, link_at, rule_at}
use Rattle.outline.specs.Network.{Network, network_of}

-- "C, L, R"
abbrev pub counts_length : ℕ
counts_length = 3

abbrev pub companies_in : List ℕ → ℕ
companies_in s = get_or s 0 0

abbrev pub links_in : List ℕ → ℕ
links_in s = get_or s 1 0

abbrev pub rules_in : List ℕ → ℕ
rules_in s = get_or s 2 0

-- "per company n and its n² fares"
abbrev pub table_numbers : ℕ → ℕ
table_numbers n = 1 + n * n

-- where the numbers of company c begin: after those of the companies before
unfoldable pub company_start : List ℕ → ℕ → ℕ
company_start s zero = counts_length
company_start s (suc c) = company_start s c + table_numbers (get_or s (company_start s c) 0)

abbrev pub stations_in : List ℕ → ℕ → ℕ
stations_in s c = get_or s (company_start s c) 0

unfoldable pub table_in : List ℕ → ℕ → Table
table_in s at = record { stations = get_or s at 0; fares = part s (at + 1) (get_or s at 0 * get_or s at 0) }

-- where the entry of row i, column j stands among the numbers of a company of n stations
abbrev pub fare_index : ℕ → ℕ → ℕ → ℕ
fare_index n i j = 1 + (i * n + j)

-- "per link four numbers"
abbrev pub link_numbers : ℕ
link_numbers = 4

abbrev pub link_start : List ℕ → ℕ → ℕ
link_start s k = company_start s (companies_in s) + link_numbers * k

abbrev pub station_in : List ℕ → ℕ → Station
station_in s at = record { company = get_or s at 0; number = get_or s (at + 1) 0 }

unfoldable pub link_in : List ℕ → ℕ → Link
link_in s at = record { one = station_in s at; other = station_in s (at + 2) }

-- "per rule 32 numbers (the amount is one number)"
abbrev pub rule_numbers : ℕ
rule_numbers = 32

abbrev pub rule_start : List ℕ → ℕ → ℕ
rule_start s k = link_start s (links_in s) + rule_numbers * k

unfoldable pub rule_in : List ℕ → ℕ → Rule
rule_in s at = record {
  rides = get_or s at 0;
  companies = part s (at + 1) 4;
  amount = get_or s (at + 5) 0;
  boarding = part s (at + 6) 5;
  alighting = part s (at + 11) 5;
  permitted = part s (at + 16) 16;
}

-- what the sheet says
unfoldable pub fares_in : List ℕ → Fares
fares_in s = record {
  tables = list_of (λ c. table_in s (company_start s c)) (companies_in s);
  links = list_of (λ k. link_in s (link_start s k)) (links_in s);
  rules = list_of (λ k. rule_in s (rule_start s k)) (rules_in s);
}

unfoldable pub network_in : List ℕ → Network
network_in s = network_of (fares_in s)

-- ---- the sheet that says it

unfoldable pub table_sheet : Table → List ℕ
table_sheet t = t.stations ∷ t.fares

unfoldable pub link_sheet : Link → List ℕ
link_sheet l = l.one.company ∷ l.one.number ∷ l.other.company ∷ l.other.number ∷ []

unfoldable pub rule_sheet : Rule → List ℕ
rule_sheet r = (r.rides ∷ r.companies) ++ (r.amount ∷ (r.boarding ++ (r.alighting ++ r.permitted)))

unfoldable pub counts_sheet : Fares → List ℕ
counts_sheet F = length F.tables ∷ length F.links ∷ length F.rules ∷ []

unfoldable pub tables_sheet : Fares → List ℕ
tables_sheet F = in_order (λ c. table_sheet (table_at F c)) (length F.tables)

unfoldable pub links_sheet : Fares → List ℕ
links_sheet F = in_order (λ k. link_sheet (link_at F k)) (length F.links)

unfoldable pub rules_sheet : Fares → List ℕ
rules_sheet F = in_order (λ k. rule_sheet (rule_at F k)) (length F.rules)

unfoldable pub sheet_of : Fares → List ℕ
sheet_of F = counts_sheet F ++ (tables_sheet F ++ (links_sheet F ++ rules_sheet F))
