-- What a fare book or a sheet says, in parts: a table for each company, links and rules.
use Rattle.std.specs.Prelude.{ℕ, ◌+◌, ◌*◌, ◌/◌, ◌%◌, ◌^◌, Bool, List, [], get_or, eqb}
use Rattle.outline.specs.declared.Link.{Link}
use Rattle.outline.specs.declared.Rule.{Rule}

-- "one byte n, then n × n two-byte entries, row by row"
pub record Table : Type 0 where
  pub stations : ℕ
  pub fares : List ℕ

-- "the row is the boarding station, the column the alighting one"
unfoldable pub fare_at : Table → ℕ → ℕ → ℕ
fare_at t i j = get_or t.fares (i * t.stations + j) 0

-- the rule's company for ride i of a run
abbrev pub company_at : Rule → ℕ → ℕ
company_at r i = get_or r.companies i 0

-- "In a map item i is bit i mod 8 of byte i / 8, lowest bit first."
unfoldable pub in_map : List ℕ → ℕ → Bool
in_map map i = eqb ((get_or map (i / 8) 0 / 2 ^ (i % 8)) % 2) 1

pub record Fares : Type 0 where
  pub tables : List Table
  pub links : List Link
  pub rules : List Rule

abbrev pub no_table : Table
no_table = record { stations = 0; fares = [] }

abbrev pub no_link : Link
no_link = record { one = record { company = 0; number = 0 }; other = record { company = 0; number = 0 } }

abbrev pub no_rule : Rule
no_rule = record { rides = 0; companies = []; amount = 0; boarding = []; alighting = []; permitted = [] }

abbrev pub table_at : Fares → ℕ → Table
table_at F c = get_or F.tables c no_table

abbrev pub link_at : Fares → ℕ → Link
link_at F k = get_or F.links k no_link

abbrev pub rule_at : Fares → ℕ → Rule
rule_at F k = get_or F.rules k no_rule
