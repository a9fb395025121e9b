-- What a valid book is, by its parts. No refusal is mentioned here.
use Rattle.std.specs.Prelude.{ℕ, ◌+◌, ◌-◌, ◌*◌, ◌≤◌, ◌<◌, ◌≡◌, false, List, length, get_or}
use Rattle.outline.specs.declared.Link.{Link}
use Rattle.outline.specs.Numbers.{most_companies, least_stations, most_stations, most_links, most_rules, most_fare, most_amount, least_run, most_run, no_company}
use Rattle.outline.specs.Tests.{Within}
use Rattle.outline.specs.declared.Rule.{Rule}
use Rattle.outline.specs.Fares.{Table, Fares, fare_at, table_at, company_at, in_map}
use Rattle.outline.specs.Network.{Network, network_of}
use Rattle.outline.specs.Book.{layout_number, company_count, link_count, rule_count, header_length, offset_of, length_of, links_entry, rules_entry, first_body, end_before, body_of, company_length, station_count, link_length, rule_length, fares_of}

-- "Bytes 0 to 3: layout number (1), companies C, links L, rules R." and room for the contents
pub record Header (b : List ℕ) : Type 0 where
  pub present : header_length ≤ length b
  pub layout : layout_number b ≡ 1
  pub companies : Within 1 (company_count b) most_companies
  pub links : link_count b ≤ most_links
  pub rules : rule_count b ≤ most_rules
  pub contents : first_body b ≤ length b

-- "Bodies lie in the order of the contents without gaps."
pub record Body (b : List ℕ) (e : ℕ) : Type 0 where
  pub follows : offset_of b e ≡ end_before b e
  pub inside : offset_of b e + length_of b e ≤ length b

-- "Company body: one byte n, then n × n two-byte entries .. Length 1 + 2n²."
pub record CompanyBody (b : List ℕ) (c : ℕ) : Type 0 where
  pub body : Body b c
  pub stations : Within least_stations (station_count (body_of b c)) most_stations
  pub long : length_of b c ≡ company_length (station_count (body_of b c))

-- the links' and the rules' bodies
pub record ListBody (b : List ℕ) (e bytes : ℕ) : Type 0 where
  pub body : Body b e
  pub long : length_of b e ≡ bytes

pub record LaidOut (b : List ℕ) : Type 0 where
  pub header : Header b
  pub companies : (c : ℕ) → c < company_count b → CompanyBody b c
  pub links : ListBody b (links_entry b) (link_length * link_count b)
  pub rules : ListBody b (rules_entry b) (rule_length * rule_count b)
  pub ends : offset_of b (rules_entry b) + length_of b (rules_entry b) ≡ length b  -- "the last ends where the book ends"

-- "A fare is 1 to 9,999 yen; a table entry of 0 means that no ride is sold." "The diagonal is 0."
pub record GoodEntry (i j x : ℕ) : Type 0 where
  pub diagonal : i ≡ j → x ≡ 0
  pub small : x ≤ most_fare

abbrev pub GoodTable : Table → Type 0
GoodTable t = (i j : ℕ) → i < t.stations → j < t.stations → GoodEntry i j (fare_at t i j)

-- "The first company is less than the second. Both stations exist."
pub record GoodLink (N : Network) (l : Link) : Type 0 where
  pub ordered : l.one.company < l.other.company
  pub company : l.other.company < N.companies
  pub one : l.one.number < N.stations l.one.company
  pub other : l.other.number < N.stations l.other.company

-- "No link occurs twice."
abbrev pub Once : Network → ℕ → Type 0
Once N k = (j : ℕ) → j < k → N.link j ≡ N.link k → ⊥

-- "A bit beyond the last station or link is an error. Empty maps are allowed."
pub record GoodMap (map : List ℕ) (items : ℕ) : Type 0 where
  pub bytes : (i : ℕ) → i < length map → get_or map i 0 < 256
  pub beyond : (i : ℕ) → items ≤ i → i < 8 * length map → in_map map i ≡ false

pub record GoodRule (N : Network) (r : Rule) : Type 0 where
  pub rides : Within least_run r.rides most_run
  pub existing : (i : ℕ) → i < r.rides → company_at r i < N.companies  -- "the first m existing"
  pub neighbours : (i : ℕ) → i + 1 < r.rides → company_at r i ≡ company_at r (i + 1) → ⊥  -- "neighbours different"
  pub rest : (i : ℕ) → r.rides ≤ i → i < most_run → company_at r i ≡ no_company  -- "the rest 255"
  pub amount : Within 1 r.amount most_amount  -- "A discount is 1 to 999 yen."
  pub boarding : GoodMap r.boarding (N.stations (company_at r 0))  -- "boarding stations of the first company"
  pub alighting : GoodMap r.alighting (N.stations (company_at r (r.rides - 1)))  -- "alighting stations of the m-th company"
  pub permitted : GoodMap r.permitted N.links  -- "permitted links"

pub record GoodFares (F : Fares) : Type 0 where
  pub tables : (c : ℕ) → c < length F.tables → GoodTable (table_at F c)
  pub links : (k : ℕ) → k < (network_of F).links → GoodLink (network_of F) ((network_of F).link k) × Once (network_of F) k
  pub rules : (k : ℕ) → k < (network_of F).rules → GoodRule (network_of F) ((network_of F).rule k)

pub record ValidBook (b : List ℕ) : Type 0 where
  pub laid_out : LaidOut b
  pub fares : GoodFares (fares_of b)

-- a list of bytes, as every lent book is
abbrev pub Bytes : List ℕ → Type 0
Bytes b = (i : ℕ) → get_or b i 0 < 256
