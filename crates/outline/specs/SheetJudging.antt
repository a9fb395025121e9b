-- Document 01, "What is refused, and when": the refusals of a sheet, in the outline's order. "A number above 255 where the book has a byte is
-- out of range: 3, 5, 7 or 8 by its place": each such number is outside its limits, or tells no station, or is no byte of a map.
use Rattle.std.specs.Prelude.{ℕ, ◌+◌, List, length, leb, ltb, eqb, Ok}
use Rattle.outline.specs.declared.Refusal.TheVariants.{WrongLength, OutsideLimits, BadStations}
use Rattle.outline.specs.Numbers.{most_companies, least_stations, most_stations, most_links, most_rules}
use Rattle.outline.specs.Tests.{within}
use Rattle.outline.specs.Refusals.{demand, ◌and_then◌, first_below, Judged}
use Rattle.outline.specs.Judging.{fares_check}
use Rattle.outline.specs.Sheet.{counts_length, companies_in, links_in, rules_in, table_numbers, company_start, stations_in, fare_index, rule_start, fares_in}

-- "fewer than 3 numbers is 1; 3"
unfoldable pub counts_check : List ℕ → Judged
counts_check s =
    demand (leb counts_length (length s)) WrongLength
    (demand (within 1 (companies_in s) most_companies) OutsideLimits
    (demand (leb (links_in s) most_links) OutsideLimits
    (demand (leb (rules_in s) most_rules) OutsideLimits
    (Ok tt))))

-- "per company a missing n is 1, then 5, then missing fares 1"
unfoldable pub numbers_check : List ℕ → ℕ → Judged
numbers_check s c =
    demand (ltb (company_start s c) (length s)) WrongLength
    (demand (within least_stations (stations_in s c) most_stations) (BadStations c)
    (demand (leb (company_start s c + table_numbers (stations_in s c)) (length s)) WrongLength
    (Ok tt)))

-- "a wrong remainder is 1"
unfoldable pub remainder_check : List ℕ → Judged
remainder_check s = demand (eqb (rule_start s (rules_in s)) (length s)) WrongLength (Ok tt)

-- 6: "its index in the sheet"
unfoldable pub entry_index : List ℕ → ℕ → ℕ → ℕ → ℕ
entry_index s c i j = company_start s c + fare_index (stations_in s c) i j

-- "then 6, 7, 8"
unfoldable pub sheet_check : List ℕ → Judged
sheet_check s =
    counts_check s
    and_then first_below (numbers_check s) (companies_in s)
    and_then remainder_check s
    and_then fares_check (entry_index s) (fares_in s)
