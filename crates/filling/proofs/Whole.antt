-- What fares that a laid-out book or sheet says are like, and how long their sheet and their book are.
use Prim.Native.Nat.{ℕ, ◌+◌, ◌*◌, ◌≤◌, ◌<◌}
use mathlib.Core.Path.{◌≡◌, refl, ap, ◌∙◌}
use mathlib.Core.List.{List}
use native.Mathlib.Nat.{mul-le-mul}
use native.Mathlib.Omega.{arith}
use lib.ListN.{length, length-append}
use borrow.Author.Tests.{lt-ltb, le-ltb, eq-eqb, ne_eqb}
use Rattle.outline.specs.Numbers.{most_companies, least_stations, most_stations, most_links, most_rules}
use Rattle.outline.specs.Tests.{Within, choose, in_order}
use Rattle.outline.specs.Fares.{Table, Fares, table_at, link_at, rule_at, no_table, no_link, no_rule}
use Rattle.outline.specs.Network.{network_of}
use Rattle.outline.specs.Book.{company_count, link_count, rule_count, links_entry, rules_entry, body_of, station_count, table_of, link_of, rule_of, fares_of, network}
use Rattle.outline.specs.Valid.{LaidOut}
use Rattle.outline.specs.Sheet.{companies_in, rules_in, company_start, table_in, fares_in, table_sheet, link_sheet, rule_sheet, counts_sheet, tables_sheet, links_sheet, rules_sheet, sheet_of}
use Rattle.outline.specs.SheetValid.{SheetLaidOut}
use Rattle.outline.specs.Writing.{two_bytes, table_bytes, link_bytes, rule_bytes, links_bytes, rules_bytes, body_in, header_bytes, entry_bytes, book_of}
use Rattle.laws.proofs.Tests.{get_or-list_of, length-list_of}
use Rattle.laws.proofs.Reading.{RuleSized, rule_of_sized, fares_length, company_long, network_rules, rule_fits}
use Rattle.laws.proofs.Sheet.{companies_in_lem, links_in_lem, rules_in_lem, table_in_lem, rule_in_lem, stations_in_lem, square_in, rule_sized_in, rule_inside}
use Rattle.filling.proofs.InOrder.{order_more_length, order_length, order_most}
use Rattle.filling.proofs.Sizes.{Square, table_sheet_length, table_bytes_length, link_sheet_length, link_bytes_length, rule_sheet_length, rule_bytes_length}

pub record Whole (F : Fares) : Type 0 where
  pub companies : Within 1 (length F.tables) most_companies
  pub links : length F.links ≤ most_links
  pub rules : length F.rules ≤ most_rules
  pub stations : (c : ℕ) → c < length F.tables → Within least_stations (table_at F c).stations most_stations
  pub square : (c : ℕ) → c < length F.tables → Square (table_at F c)
  pub sized : (k : ℕ) → k < length F.rules → RuleSized (rule_at F k)

-- ---- the fares that a book says

pub tables_of : (b : List ℕ) → length (fares_of b).tables ≡ company_count b
unfolding fares_of
tables_of b = length-list_of _ (company_count b)

pub links_of : (b : List ℕ) → length (fares_of b).links ≡ link_count b
unfolding fares_of
links_of b = length-list_of _ (link_count b)

pub rules_of : (b : List ℕ) → length (fares_of b).rules ≡ rule_count b
unfolding fares_of
rules_of b = length-list_of _ (rule_count b)

pub table_of_lem : (b : List ℕ) (c : ℕ) → c < company_count b → table_at (fares_of b) c ≡ table_of (body_of b c)
unfolding fares_of
table_of_lem b c h = get_or-list_of (λ c. table_of (body_of b c)) (company_count b) c no_table h

pub link_of_lem : (b : List ℕ) (k : ℕ) → k < link_count b → link_at (fares_of b) k ≡ link_of (body_of b (links_entry b)) k
unfolding fares_of
link_of_lem b k h = get_or-list_of (link_of (body_of b (links_entry b))) (link_count b) k no_link h

pub rule_of_lem : (b : List ℕ) (k : ℕ) → k < rule_count b → rule_at (fares_of b) k ≡ rule_of (body_of b (rules_entry b)) k
unfolding fares_of
rule_of_lem b k h = get_or-list_of (rule_of (body_of b (rules_entry b))) (rule_count b) k no_rule h

pub link_of_network : (b : List ℕ) (k : ℕ) → (network b).link k ≡ link_at (fares_of b) k
unfolding network network_of
link_of_network b k = refl

pub stations_of_network : (b : List ℕ) (c : ℕ) → (network b).stations c ≡ (table_at (fares_of b) c).stations
unfolding network network_of
stations_of_network b c = refl

pub stations_of_lem : (b : List ℕ) (c : ℕ) → c < company_count b → (table_at (fares_of b) c).stations ≡ station_count (body_of b c)
unfolding table_of
stations_of_lem b c h = ap (λ (t : Table). t.stations) (table_of_lem b c h)

pub book_whole : (b : List ℕ) → LaidOut b → Whole (fares_of b)
unfolding table_of
book_whole b w =
    record {
      companies = rw (tables_of b) w.header.companies;
      links = rw (links_of b) w.header.links;
      rules = rw (rules_of b) w.header.rules;
      stations = λ c h. rw (stations_of_lem b c (rw (tables_of b) at h)) (w.companies c (rw (tables_of b) at h)).stations;
      square = λ c h. square c (rw (tables_of b) at h);
      sized = λ k h. sized k (rw (rules_of b) at h);
    }
  where
    square : (c : ℕ) → c < company_count b → Square (table_at (fares_of b) c)
    square c h = rw (table_of_lem b c h) (fares_length (body_of b c) (company_long b w c h))

    sized : (k : ℕ) → k < rule_count b → RuleSized (rule_at (fares_of b) k)
    sized k h = rw (rule_of_lem b k h) (rule_of_sized (body_of b (rules_entry b)) k (rule_fits b w k (rw (network_rules b) h)))

-- ---- the fares that a sheet says

pub sheet_whole : (s : List ℕ) → SheetLaidOut s → Whole (fares_in s)
unfolding table_in
sheet_whole s w =
    record {
      companies = rw (companies_in_lem s) w.counts.companies;
      links = rw (links_in_lem s) w.counts.links;
      rules = rw (rules_in_lem s) w.counts.rules;
      stations = λ c h. rw (stations_in_lem s c (rw (companies_in_lem s) at h)) (w.companies c (rw (companies_in_lem s) at h)).stations;
      square = λ c h. square c (rw (companies_in_lem s) at h);
      sized = λ k h. sized k (rw (rules_in_lem s) at h);
    }
  where
    square : (c : ℕ) → c < companies_in s → Square (table_at (fares_in s) c)
    square c h = rw (table_in_lem s c h) (square_in s (company_start s c) (w.companies c h).inside)

    sized : (k : ℕ) → k < rules_in s → RuleSized (rule_at (fares_in s) k)
    sized k h = rw (rule_in_lem s k h) (rule_sized_in s _ (rule_inside s w k h))

-- ---- lengths

module _ (F : Fares) (whole : Whole F) where
  small_square : (c : ℕ) → c < length F.tables → (table_at F c).stations * (table_at F c).stations ≤ 1600
  small_square c h = mul-le-mul (whole.stations c h).to (whole.stations c h).to

  pub tables_sheet_most : length (tables_sheet F) ≤ 25616
  unfolding tables_sheet
  tables_sheet_most =
      let each = order_most (λ c. table_sheet (table_at F c)) 1601 (length F.tables) (λ c h. omega (arith, table_sheet_length (table_at F c) (whole.square c h), small_square c h)) in
      omega (arith, whole.companies.to)

  pub links_sheet_length : length (links_sheet F) ≡ 4 * length F.links
  unfolding links_sheet
  links_sheet_length = order_length (λ k. link_sheet (link_at F k)) 4 (length F.links) (λ k h. link_sheet_length (link_at F k))

  pub rules_sheet_length : length (rules_sheet F) ≡ 32 * length F.rules
  unfolding rules_sheet
  rules_sheet_length = order_length (λ k. rule_sheet (rule_at F k)) 32 (length F.rules) (λ k h. rule_sheet_length (rule_at F k) (whole.sized k h))

  pub sheet_length : length (sheet_of F) ≡ 3 + length (tables_sheet F) + 4 * length F.links + 32 * length F.rules
  unfolding sheet_of counts_sheet
  sheet_length = simp length-append (omega (arith, links_sheet_length, rules_sheet_length))

  -- "the longest sheet 27,155 numbers"
  pub longest_sheet : length (sheet_of F) ≤ 27155
  longest_sheet = omega (arith, sheet_length, tables_sheet_most, whole.links, whole.rules)

  -- ---- the book

  pub body_company : (c : ℕ) → c < length F.tables → body_in F c ≡ table_bytes (table_at F c)
  unfolding body_in choose
  body_company c h = rw (lt-ltb c (length F.tables) h)

  pub body_links : body_in F (length F.tables) ≡ links_bytes F
  unfolding body_in choose
  body_links =
      let l : length F.tables ≤ length F.tables = omega arith in
      rw (le-ltb (length F.tables) (length F.tables) l, eq-eqb (length F.tables) (length F.tables) refl)

  pub body_rules : body_in F (length F.tables + 1) ≡ rules_bytes F
  unfolding body_in choose
  body_rules =
      let l : length F.tables ≤ length F.tables + 1 = omega arith in
      rw (le-ltb (length F.tables + 1) (length F.tables) l, ne_eqb (length F.tables + 1) (length F.tables) (λ e. omega arith))

  pub company_bytes_length : (c : ℕ) → c < length F.tables → length (body_in F c) ≡ 1 + 2 * ((table_at F c).stations * (table_at F c).stations)
  company_bytes_length c h = ap length (body_company c h) ∙ table_bytes_length (table_at F c) (whole.square c h)

  pub links_bytes_length : length (body_in F (length F.tables)) ≡ 4 * length F.links
  unfolding links_bytes
  links_bytes_length = ap length body_links ∙ order_length (λ k. link_bytes (link_at F k)) 4 (length F.links) (λ k h. link_bytes_length (link_at F k))

  pub rules_bytes_length : length (body_in F (length F.tables + 1)) ≡ 33 * length F.rules
  unfolding rules_bytes
  rules_bytes_length = ap length body_rules ∙ order_length (λ k. rule_bytes (rule_at F k)) 33 (length F.rules) (λ k h. rule_bytes_length (rule_at F k) (whole.sized k h))

  -- the first bodies, of companies
  pub bodies_most : (n : ℕ) → n ≤ length F.tables → length (in_order (body_in F) n) ≤ 3201 * n
  bodies_most n h = order_most (body_in F) 3201 n (λ c l. omega (arith, company_bytes_length c (omega arith), small_square c (omega arith)))

  pub entry_length : (e : ℕ) → length (entry_bytes F e) ≡ 4
  unfolding entry_bytes two_bytes
  entry_length e = refl

  pub contents_length : (n : ℕ) → length (in_order (entry_bytes F) n) ≡ 4 * n
  contents_length n = order_length (entry_bytes F) 4 n (λ e h. entry_length e)

  pub bodies_length : length (in_order (body_in F) (length F.tables + 2)) ≡ length (in_order (body_in F) (length F.tables)) + 4 * length F.links + 33 * length F.rules
  bodies_length =
      let n : ℕ = length F.tables in
      let two : n + 2 ≡ n + 1 + 1 = omega arith in
      ap (λ (m : ℕ). length (in_order (body_in F) m)) two
      ∙ omega (arith, order_more_length (body_in F) (n + 1), order_more_length (body_in F) n, links_bytes_length, rules_bytes_length)

  pub book_length : length (book_of F) ≡ 4 + 4 * (length F.tables + 2) + length (in_order (body_in F) (length F.tables)) + 4 * length F.links + 33 * length F.rules
  unfolding book_of header_bytes
  book_length = simp length-append (omega (arith, contents_length (length F.tables + 2), bodies_length))

  -- "The longest book has 52,860 bytes"
  pub longest_book : length (book_of F) ≤ 52860
  longest_book = omega (arith, book_length, bodies_most (length F.tables) (omega arith), whole.companies.to, whole.links, whole.rules)
