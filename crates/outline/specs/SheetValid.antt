-- What a valid sheet is, by its parts. No refusal is mentioned here.
use Rattle.std.specs.Prelude.{ℕ, ◌+◌, ◌≤◌, ◌<◌, ◌≡◌, List, length}
use Rattle.outline.specs.Numbers.{most_companies, least_stations, most_stations, most_links, most_rules}
use Rattle.outline.specs.Tests.{Within}
use Rattle.outline.specs.Valid.{GoodFares}
use Rattle.outline.specs.Sheet.{counts_length, companies_in, links_in, rules_in, table_numbers, company_start, stations_in, rule_start, fares_in}

-- "C, L, R" within "Companies 1 to 16", "Links 0 to 128" and "Rules 0 to 32"
pub record GoodCounts (s : List ℕ) : Type 0 where
  pub present : counts_length ≤ length s
  pub companies : Within 1 (companies_in s) most_companies
  pub links : links_in s ≤ most_links
  pub rules : rules_in s ≤ most_rules

-- "per company n and its n² fares"
pub record CompanyNumbers (s : List ℕ) (c : ℕ) : Type 0 where
  pub stations : Within least_stations (stations_in s c) most_stations
  pub inside : company_start s c + table_numbers (stations_in s c) ≤ length s

pub record SheetLaidOut (s : List ℕ) : Type 0 where
  pub counts : GoodCounts s
  pub companies : (c : ℕ) → c < companies_in s → CompanyNumbers s c
  pub ends : rule_start s (rules_in s) ≡ length s  -- "It ends exactly there."

pub record ValidSheet (s : List ℕ) : Type 0 where
  pub laid_out : SheetLaidOut s
  pub fares : GoodFares (fares_in s)
