-- The first refusal is the one named, with its place: for each refusal of a book, what a book is that is refused with it, told by the
-- parts of a valid book and not by the checks.
use Prim.Native.Nat.{ℕ, ◌+◌, ◌*◌, ◌≤◌, ◌<◌}
use Rattle.std.proofs.Common.{Ok, Err}
use mathlib.Core.Path.{◌≡◌, refl, sym, ap, ◌∙◌}
use mathlib.Core.Bool.{Bool, true}
use mathlib.Core.List.{List}
use mathlib.Core.Logic.Iff
use mathlib.Core.Logic.{◌⊎◌, inl, inr, ⊎_elim, ◌↔◌}
use native.Mathlib.Omega.{arith}
use lib.ListN.{length}
use lib.Dec.{leb, ltb, eqb}
use borrow.Author.Tests.{leb-true, ltb-true, eqb-true, le-leb, lt-ltb, eq-eqb}
use Rattle.outline.specs.declared.Refusal.{Refusal}
use Rattle.outline.specs.declared.Refusal.TheVariants.{WrongLength, UnknownLayout, OutsideLimits, BadContents, BadStations, BadEntry, BadLink, BadRule}
use Rattle.outline.specs.Numbers.{most_companies, least_stations, most_stations, most_links, most_rules}
use Rattle.outline.specs.Tests.{both, within, Within}
use Rattle.outline.specs.Refusals.{demand, ◌and_then◌, first_below, number_of, place_of, Judged}
use Rattle.outline.specs.Fares.{Table, Fares, fare_at, table_at}
use Rattle.outline.specs.Network.{Network, network_of}
use Rattle.outline.specs.Book.{layout_number, company_count, link_count, rule_count, header_length, offset_of, length_of, links_entry, rules_entry, first_body, end_before, body_of, company_length, station_count, link_length, rule_length, fares_of, network}
use Rattle.outline.specs.Valid.{Header, Body, CompanyBody, ListBody, LaidOut, GoodEntry, GoodTable, GoodLink, Once, GoodRule, ValidBook}
use Rattle.outline.specs.Judging.{header_check, company_check, list_check, end_check, contents_check, entry_check, row_check, table_check, tables_check, link_check, rule_check, fares_check, entry_offset, book_check}
use Rattle.laws.proofs.Tests.{both_true, both_holds, within_true, within_holds}
use Rattle.laws.proofs.Firsts.{refused_not_good, then_good, then_next, first_good, first_holds}
use Rattle.laws.proofs.Named.{FirstBad, demand_refused, demand_both, then_names, first_names, Names, names_good, names_demand, names_then, names_first, refused_with, demand_passes, demand_stays, then_passes, then_stays, first_at_lem, first_refused_with}
use Rattle.laws.proofs.Judging.{header_good, header_holds, company_good, company_holds, list_good, list_holds, end_good, end_holds, contents_good, contents_holds, entry_judged_good, entry_judged_holds, row_good, row_holds, table_good, table_holds, tables_good, tables_holds, link_judged_good, link_judged_holds, rule_judged_good, rule_judged_holds, book_good}

-- ---- the words of the theorems

abbrev pub GoodTables : Fares → Type 0
GoodTables F = (c : ℕ) → c < length F.tables → GoodTable (table_at F c)

-- link k and rule k of a network are good
abbrev pub LinkHolds : Network → ℕ → Type 0
LinkHolds N k = GoodLink N (N.link k) × Once N k

abbrev pub GoodLinks : Network → Type 0
GoodLinks N = (k : ℕ) → k < N.links → LinkHolds N k

abbrev pub RuleHolds : Network → ℕ → Type 0
RuleHolds N k = GoodRule N (N.rule k)

-- the entry of row i, column j of a table is bad, and none before it: of an earlier row, earlier in its row
pub record FirstBadIn (t : Table) (i j : ℕ) : Type 0 where
  pub row : i < t.stations
  pub column : j < t.stations
  pub rows : (k l : ℕ) → k < i → l < t.stations → GoodEntry k l (fare_at t k l)
  pub columns : (l : ℕ) → l < j → GoodEntry i l (fare_at t i l)
  pub bad : GoodEntry i j (fare_at t i j) → ⊥

-- that of company c is the first bad entry of all companies
pub record FirstBadEntry (F : Fares) (c i j : ℕ) : Type 0 where
  pub company : c < length F.tables
  pub companies : (d : ℕ) → d < c → GoodTable (table_at F d)
  pub entry : FirstBadIn (table_at F c) i j

-- "offset differs from the end of the part before, length 0, or body past the book's end" is not so
pub record Placed (b : List ℕ) (c : ℕ) : Type 0 where
  pub body : Body b c
  pub some : 0 < length_of b c

abbrev pub StationsHold : List ℕ → ℕ → Type 0
StationsHold b c = Within least_stations (station_count (body_of b c)) most_stations

abbrev pub LengthHolds : List ℕ → ℕ → Type 0
LengthHolds b c = length_of b c ≡ company_length (station_count (body_of b c))

-- what is wrong with company c where all before it is right: 5, and 4 before and after it
abbrev pub BadStationsAt : List ℕ → ℕ → Type 0
BadStationsAt b c = Placed b c × (StationsHold b c → ⊥)

abbrev pub BadContentsAt : List ℕ → ℕ → Type 0
BadContentsAt b c = (Placed b c → ⊥) ⊎ (Placed b c × StationsHold b c × (LengthHolds b c → ⊥))

-- W is wrong of company c, and no company before it is wrong
pub record FirstWrong (b : List ℕ) (c : ℕ) (W : Type 0) : Type 0 where
  pub below : c < company_count b
  pub before : (d : ℕ) → d < c → CompanyBody b d
  pub wrong : W

abbrev pub CompaniesHold : List ℕ → Type 0
CompaniesHold b = (c : ℕ) → c < company_count b → CompanyBody b c

abbrev pub LinksHold : List ℕ → Type 0
LinksHold b = ListBody b (links_entry b) (link_length * link_count b)

-- the rules' entry is right, and no bytes are left over
pub record RulesHold (b : List ℕ) : Type 0 where
  pub rules : ListBody b (rules_entry b) (rule_length * rule_count b)
  pub ends : offset_of b (rules_entry b) + length_of b (rules_entry b) ≡ length b

-- entry e of the contents is wrong, and all that comes before it is right: a company's, the links' or the rules'
abbrev pub WrongEntry : List ℕ → ℕ → Type 0
WrongEntry b e =
    FirstWrong b e (BadContentsAt b e)
    ⊎ (((e ≡ links_entry b) × CompaniesHold b × (LinksHold b → ⊥))
    ⊎ ((e ≡ rules_entry b) × CompaniesHold b × LinksHold b × (RulesHold b → ⊥)))

-- "C, L or R outside its limits" is not so
pub record Limits (b : List ℕ) : Type 0 where
  pub companies : Within 1 (company_count b) most_companies
  pub links : link_count b ≤ most_links
  pub rules : rule_count b ≤ most_rules

-- ---- which refusals each stage can name

abbrev Between : ℕ → ℕ → Refusal → Type 0
Between low high x = Within low (number_of x) high

header_numbers : (b : List ℕ) → Names (Between 1 3) (header_check b)
unfolding header_check
header_numbers b =
    names_demand (Between 1 3) _ WrongLength _ (omega arith)
    (names_demand (Between 1 3) _ UnknownLayout _ (omega arith)
    (names_demand (Between 1 3) _ OutsideLimits _ (omega arith)
    (names_demand (Between 1 3) _ OutsideLimits _ (omega arith)
    (names_demand (Between 1 3) _ OutsideLimits _ (omega arith)
    (names_demand (Between 1 3) _ WrongLength _ (omega arith) (names_good (Between 1 3)))))))

-- a company's check names its own number, an entry's check the entry's
company_names : (Q : Refusal → Type 0) (b : List ℕ) (c : ℕ) → Q (BadContents c) → Q (BadStations c) → Names Q (company_check b c)
unfolding company_check
company_names Q b c p q =
    names_demand Q _ (BadContents c) _ p
    (names_demand Q _ (BadContents c) _ p
    (names_demand Q _ (BadContents c) _ p
    (names_demand Q _ (BadStations c) _ q
    (names_demand Q _ (BadContents c) _ p (names_good Q)))))

list_names : (Q : Refusal → Type 0) (b : List ℕ) (e bytes : ℕ) → Q (BadContents e) → Names Q (list_check b e bytes)
unfolding list_check
list_names Q b e bytes p =
    names_demand Q _ (BadContents e) _ p
    (names_demand Q _ (BadContents e) _ p
    (names_demand Q _ (BadContents e) _ p (names_good Q)))

end_names : (Q : Refusal → Type 0) (b : List ℕ) → Q (BadContents (rules_entry b)) → Names Q (end_check b)
unfolding end_check
end_names Q b p = names_demand Q _ (BadContents (rules_entry b)) _ p (names_good Q)

contents_numbers : (b : List ℕ) → Names (Between 4 5) (contents_check b)
unfolding contents_check
contents_numbers b =
    names_then (Between 4 5) _ _
    (names_first (Between 4 5) (company_check b) _ (λ c. company_names (Between 4 5) b c (omega arith) (omega arith)))
    (names_then (Between 4 5) _ _
    (list_names (Between 4 5) b (links_entry b) _ (omega arith))
    (names_then (Between 4 5) _ _
    (list_names (Between 4 5) b (rules_entry b) _ (omega arith))
    (end_names (Between 4 5) b (omega arith))))

entry_names : (Q : Refusal → Type 0) (place : ℕ → ℕ → ℕ) (t : Table) (i j : ℕ) → Q (BadEntry (place i j)) → Names Q (entry_check place t i j)
unfolding entry_check
entry_names Q place t i j p = names_demand Q _ (BadEntry (place i j)) _ p (names_good Q)

tables_numbers : (place : ℕ → ℕ → ℕ → ℕ) (F : Fares) → Names (Between 6 6) (tables_check place F)
unfolding tables_check table_check row_check
tables_numbers place F =
    names_first (Between 6 6) (λ c. table_check (place c) (table_at F c)) _
    (λ c. names_first (Between 6 6) (row_check (place c) (table_at F c)) _
    (λ i. names_first (Between 6 6) (entry_check (place c) (table_at F c) i) _
    (λ j. entry_names (Between 6 6) (place c) (table_at F c) i j (omega arith))))

link_names : (Q : Refusal → Type 0) (N : Network) (k : ℕ) → Q (BadLink k) → Names Q (link_check N k)
unfolding link_check
link_names Q N k p = names_demand Q _ (BadLink k) _ p (names_demand Q _ (BadLink k) _ p (names_good Q))

links_numbers : (N : Network) (n : ℕ) → Names (Between 7 7) (first_below (link_check N) n)
links_numbers N n = names_first (Between 7 7) (link_check N) n (λ k. link_names (Between 7 7) N k (omega arith))

rule_names : (Q : Refusal → Type 0) (N : Network) (k : ℕ) → Q (BadRule k) → Names Q (rule_check N k)
unfolding rule_check
rule_names Q N k p = names_demand Q _ (BadRule k) _ p (names_good Q)

rules_numbers : (N : Network) (n : ℕ) → Names (Between 8 8) (first_below (rule_check N) n)
rules_numbers N n = names_first (Between 8 8) (rule_check N) n (λ k. rule_names (Between 8 8) N k (omega arith))

wider : (low high low' high' : ℕ) (a : Judged) → low' ≤ low → high ≤ high' → Names (Between low high) a → Names (Between low' high') a
wider low high low' high' a p q h x e = let w = h x e in omega arith

lists_numbers : (N : Network) → Names (Between 7 8) (first_below (link_check N) N.links and_then first_below (rule_check N) N.rules)
lists_numbers N =
    names_then (Between 7 8) _ _
    (wider 7 7 7 8 _ (omega arith) (omega arith) (links_numbers N _))
    (wider 8 8 7 8 _ (omega arith) (omega arith) (rules_numbers N _))

fares_numbers : (place : ℕ → ℕ → ℕ → ℕ) (F : Fares) → Names (Between 6 8) (fares_check place F)
unfolding fares_check
fares_numbers place F =
    names_then (Between 6 8) _ _
    (wider 6 6 6 8 _ (omega arith) (omega arith) (tables_numbers place F))
    (wider 7 8 6 8 _ (omega arith) (omega arith) (lists_numbers (network_of F)))

-- A book's refusal is one of the first eight.
pub book_numbers : (b : List ℕ) (x : Refusal) → book_check b ≡ Err x → Within 1 (number_of x) 8
unfolding book_check
book_numbers b =
    names_then (Between 1 8) _ _
    (wider 1 3 1 8 _ (omega arith) (omega arith) (header_numbers b))
    (names_then (Between 1 8) _ _
    (wider 4 5 1 8 _ (omega arith) (omega arith) (contents_numbers b))
    (wider 6 8 1 8 _ (omega arith) (omega arith) (fares_numbers (entry_offset b) (fares_of b))))

-- ---- the stages, each passed by a refusal of a later one

header_passed : (b : List ℕ) (next : Judged) (x : Refusal) → 4 ≤ number_of x
    → (header_check b and_then next ≡ Err x) ↔ (Header b × (next ≡ Err x))
header_passed b next x l =
    then_passes (header_check b) next x (λ r. let w = header_numbers b x r in omega arith) (header_good b, header_holds b)

contents_passed : (b : List ℕ) → Header b → (next : Judged) (x : Refusal) → 6 ≤ number_of x
    → (contents_check b and_then next ≡ Err x) ↔ (LaidOut b × (next ≡ Err x))
contents_passed b h next x l =
    then_passes (contents_check b) next x (λ r. let w = contents_numbers b x r in omega arith) (contents_good b h, contents_holds b)

tables_passed : (place : ℕ → ℕ → ℕ → ℕ) (F : Fares) (next : Judged) (x : Refusal) → 7 ≤ number_of x
    → (tables_check place F and_then next ≡ Err x) ↔ (GoodTables F × (next ≡ Err x))
tables_passed place F next x l =
    then_passes (tables_check place F) next x (λ r. let w = tables_numbers place F x r in omega arith) (tables_good place F, tables_holds place F)

links_passed : (N : Network) (next : Judged) (x : Refusal) → 8 ≤ number_of x
    → (first_below (link_check N) N.links and_then next ≡ Err x) ↔ (GoodLinks N × (next ≡ Err x))
links_passed N next x l =
    then_passes _ next x (λ r. let w = links_numbers N N.links x r in omega arith)
    (λ e k h. link_judged_good N k (first_good (link_check N) _ e k h), λ g. first_holds (link_check N) _ (λ k h. link_judged_holds N k (g k h).0 (g k h).1))

-- a book refused with one of 1 to 3, with 4 or 5, with one of 6 to 8

header_refused : (b : List ℕ) (x : Refusal) → number_of x ≤ 3 → (book_check b ≡ Err x) ↔ (header_check b ≡ Err x)
unfolding book_check
header_refused b x h =
    then_stays _ _ x
    (λ r. let w = names_then (Between 4 8) _ _
    (wider 4 5 4 8 _ (omega arith) (omega arith) (contents_numbers b))
    (wider 6 8 4 8 _ (omega arith) (omega arith) (fares_numbers (entry_offset b) (fares_of b))) x r in omega arith)

contents_refused : (b : List ℕ) (x : Refusal) → 4 ≤ number_of x → number_of x ≤ 5
    → (book_check b ≡ Err x) ↔ (Header b × (contents_check b ≡ Err x))
unfolding book_check
contents_refused b x l h =
    Iff.trans (header_passed b _ x l)
    (Iff.and Iff.rfl (then_stays (contents_check b) _ x (λ r. let w = fares_numbers (entry_offset b) (fares_of b) x r in omega arith)))

fares_refused : (b : List ℕ) (x : Refusal) → 6 ≤ number_of x
    → (book_check b ≡ Err x) ↔ (LaidOut b × (fares_check (entry_offset b) (fares_of b) ≡ Err x))
unfolding book_check
fares_refused b x l =
    let first = header_passed b (contents_check b and_then fares_check (entry_offset b) (fares_of b)) x (omega arith) in (
      λ e. let s = first.0 e in (contents_passed b s.0 _ x l).0 s.1,
      λ s. first.1 (s.0.header, (contents_passed b s.0.header _ x l).1 s),
    )

-- ---- 6 to 8, of what any book or sheet says

-- facts one after the other, as a theorem tells them
three : {A B C : Type 0} → (A × (B × C)) ↔ (A × B × C)
three = (λ h. (h.0, h.1.0, h.1.1), λ h. (h.0, (h.1, h.2)))

four : {A B C D : Type 0} → (A × (B × C × D)) ↔ (A × B × C × D)
four = (λ h. (h.0, h.1.0, h.1.1, h.1.2), λ h. (h.0, (h.1, h.2, h.3)))

-- the entry that a table's check names: its row and column
table_bad_entry : (place : ℕ → ℕ → ℕ) (t : Table) (p : ℕ) → (table_check place t ≡ Err (BadEntry p))
    ↔ ((i : ℕ) × (j : ℕ) × (p ≡ place i j) × FirstBadIn t i j)
unfolding table_check row_check
table_bad_entry place t p = (found, first)
  where
    found : table_check place t ≡ Err (BadEntry p) → (i : ℕ) × (j : ℕ) × (p ≡ place i j) × FirstBadIn t i j
    found e =
        let (i, hi, above, e₁) = (first_names (row_check place t) t.stations (BadEntry p)).0 e in
        let (j, hj, left, e₂) = (first_names (entry_check place t i) t.stations (BadEntry p)).0 e₁ in
        let same : BadEntry p ≡ BadEntry (place i j) = entry_names (λ x. x ≡ BadEntry (place i j)) place t i j refl (BadEntry p) e₂ in (
          i,
          j,
          cc,
          record {
            row = hi;
            column = hj;
            rows = λ k l hk hl. row_good place t k (above k hk) l hl;
            columns = λ l hl. entry_judged_good place t i l (left l hl);
            bad = λ g. refused_not_good (sym e₂ ∙ entry_judged_holds place t i j g);
          },
        )

    first : (i : ℕ) × (j : ℕ) × (p ≡ place i j) × FirstBadIn t i j → table_check place t ≡ Err (BadEntry p)
    first (i, j, q, f) =
        let here : entry_check place t i j ≡ Err (BadEntry (place i j)) =
        (refused_with _ _ (entry_names (λ x. x ≡ BadEntry (place i j)) place t i j refl) (entry_judged_good place t i j, entry_judged_holds place t i j)).1 f.bad in
        let there : entry_check place t i j ≡ Err (BadEntry p) = here ∙ ap (λ (m : ℕ). Err (BadEntry m)) (sym q) in
        let row = (first_names (entry_check place t i) t.stations (BadEntry p)).1 (j, f.column, λ l h. entry_judged_holds place t i l (f.columns l h), there) in
        (first_names (row_check place t) t.stations (BadEntry p)).1 (i, f.row, λ k h. row_holds place t k (λ l g. f.rows k l h g), row)

-- the place of the first bad entry is named
pub fares_bad_entry : (place : ℕ → ℕ → ℕ → ℕ) (F : Fares) (p : ℕ) → (fares_check place F ≡ Err (BadEntry p))
    ↔ ((c : ℕ) × (i : ℕ) × (j : ℕ) × (p ≡ place c i j) × FirstBadEntry F c i j)
unfolding fares_check tables_check
fares_bad_entry place F p = (found, first)
  where
    tables : (fares_check place F ≡ Err (BadEntry p)) ↔ (tables_check place F ≡ Err (BadEntry p))
    tables = then_stays _ _ (BadEntry p) (λ r. let w = lists_numbers (network_of F) _ r in omega arith)

    found : fares_check place F ≡ Err (BadEntry p) → (c : ℕ) × (i : ℕ) × (j : ℕ) × (p ≡ place c i j) × FirstBadEntry F c i j
    found e =
        let (c, h, before, here) = (first_names (λ c. table_check (place c) (table_at F c)) (length F.tables) (BadEntry p)).0 (tables.0 e) in
        let (i, j, q, f) = (table_bad_entry (place c) (table_at F c) p).0 here in
        (c, i, j, q, record { company = h; companies = λ d l. table_good (place d) (table_at F d) (before d l); entry = f })

    first : (c : ℕ) × (i : ℕ) × (j : ℕ) × (p ≡ place c i j) × FirstBadEntry F c i j → fares_check place F ≡ Err (BadEntry p)
    first (c, i, j, q, f) =
        tables.1
        ((first_names (λ c. table_check (place c) (table_at F c)) (length F.tables) (BadEntry p)).1
        (c, f.company, λ d l. table_holds (place d) (table_at F d) (f.companies d l), (table_bad_entry (place c) (table_at F c) p).1 (i, j, q, f.entry)))

pub fares_bad_link : (place : ℕ → ℕ → ℕ → ℕ) (F : Fares) (k : ℕ)
    → (fares_check place F ≡ Err (BadLink k)) ↔ (GoodTables F × FirstBad (LinkHolds (network_of F)) (network_of F).links k)
unfolding fares_check
fares_bad_link place F k =
    let N = network_of F in
    Iff.trans (tables_passed place F _ (BadLink k) (omega arith))
    (Iff.and Iff.rfl
    (Iff.trans (then_stays _ _ (BadLink k) (λ r. let w = rules_numbers N N.rules _ r in omega arith))
    (first_refused_with (LinkHolds N) (link_check N) BadLink N.links k (λ j. link_names (λ x. x ≡ BadLink j) N j refl) (λ j. refl)
    (λ j. (link_judged_good N j, λ h. link_judged_holds N j h.0 h.1)))))

pub fares_bad_rule : (place : ℕ → ℕ → ℕ → ℕ) (F : Fares) (k : ℕ)
    → (fares_check place F ≡ Err (BadRule k))
    ↔ (GoodTables F × GoodLinks (network_of F) × FirstBad (RuleHolds (network_of F)) (network_of F).rules k)
unfolding fares_check
fares_bad_rule place F k =
    let N = network_of F in
    Iff.trans (tables_passed place F _ (BadRule k) (omega arith))
    (Iff.trans
    (Iff.and Iff.rfl
    (Iff.trans (links_passed N _ (BadRule k) (omega arith))
    (Iff.and Iff.rfl
    (first_refused_with (RuleHolds N) (rule_check N) BadRule N.rules k (λ j. rule_names (λ x. x ≡ BadRule j) N j refl) (λ j. refl)
    (λ j. (rule_judged_good N j, rule_judged_holds N j))))))
    three)

-- ---- the theorems: 6 to 8

pub bad_entry : (b : List ℕ) (p : ℕ) → (book_check b ≡ Err (BadEntry p))
    ↔ (LaidOut b × ((c : ℕ) × (i : ℕ) × (j : ℕ) × (p ≡ entry_offset b c i j) × FirstBadEntry (fares_of b) c i j))
bad_entry b p = Iff.trans (fares_refused b (BadEntry p) (omega arith)) (Iff.and Iff.rfl (fares_bad_entry (entry_offset b) (fares_of b) p))

pub bad_link : (b : List ℕ) (k : ℕ) → (book_check b ≡ Err (BadLink k))
    ↔ (LaidOut b × GoodTables (fares_of b) × FirstBad (LinkHolds (network b)) (network b).links k)
unfolding network
bad_link b k =
    Iff.trans (fares_refused b (BadLink k) (omega arith)) (Iff.trans (Iff.and Iff.rfl (fares_bad_link (entry_offset b) (fares_of b) k)) three)

pub bad_rule : (b : List ℕ) (k : ℕ) → (book_check b ≡ Err (BadRule k))
    ↔ (LaidOut b × GoodTables (fares_of b) × GoodLinks (network b) × FirstBad (RuleHolds (network b)) (network b).rules k)
unfolding network
bad_rule b k =
    Iff.trans (fares_refused b (BadRule k) (omega arith)) (Iff.trans (Iff.and Iff.rfl (fares_bad_rule (entry_offset b) (fares_of b) k)) four)

-- ---- 4 and 5

regrouped : {a c r : Judged} → a ≡ c → (a ≡ r) ↔ (c ≡ r)
regrouped p = (λ e. sym p ∙ e, λ e. p ∙ e)

-- a company's check, with what it demands before it looks at the number of stations taken together
abbrev placed_test : List ℕ → ℕ → Bool
placed_test b c = both (eqb (offset_of b c) (end_before b c)) (both (ltb 0 (length_of b c)) (leb (offset_of b c + length_of b c) (length b)))

abbrev stations_then_length : List ℕ → ℕ → Judged
stations_then_length b c =
    demand (within least_stations (station_count (body_of b c)) most_stations) (BadStations c)
    (demand (eqb (length_of b c) (company_length (station_count (body_of b c)))) (BadContents c)
    (Ok tt))

company_regrouped : (b : List ℕ) (c : ℕ) → company_check b c ≡ demand (placed_test b c) (BadContents c) (stations_then_length b c)
unfolding company_check
company_regrouped b c = rw (← demand_both, ← demand_both)

placed_test_lem : (b : List ℕ) (c : ℕ) → (placed_test b c ≡ true) ↔ Placed b c
placed_test_lem b c = (tells, holds)
  where
    tells : placed_test b c ≡ true → Placed b c
    tells e =
        let p = both_true _ _ e in
        let q = both_true _ _ p.1 in
        record { body = record { follows = eqb-true _ _ p.0; inside = leb-true _ _ q.1 }; some = ltb-true _ _ q.0 }

    holds : Placed b c → placed_test b c ≡ true
    holds p = both_holds _ _ (eq-eqb _ _ p.body.follows) (both_holds _ _ (lt-ltb _ _ p.some) (le-leb _ _ p.body.inside))

stations_test : (b : List ℕ) (c : ℕ) → (within least_stations (station_count (body_of b c)) most_stations ≡ true) ↔ StationsHold b c
stations_test b c = (within_true _ _ _, within_holds _ _ _)

length-test : (b : List ℕ) (c : ℕ) → (eqb (length_of b c) (company_length (station_count (body_of b c))) ≡ true) ↔ LengthHolds b c
length-test b c = (eqb-true _ _, eq-eqb _ _)

-- two refusals of different numbers differ
different : {x y : Refusal} → (number_of x ≡ number_of y → ⊥) → x ≡ y → ⊥
different n e = n (ap number_of e)

good_not_refused : {x : Refusal} → ◌≡◌ {A = Judged} (Ok tt) (Err x) → ⊥
good_not_refused e = refused_not_good (sym e)

company_bad_stations : (b : List ℕ) (c : ℕ) → (company_check b c ≡ Err (BadStations c)) ↔ BadStationsAt b c
company_bad_stations b c =
    Iff.trans (regrouped (company_regrouped b c))
    (Iff.trans (demand_passes (placed_test b c) _ _ (BadStations c) (different (omega arith)) (placed_test_lem b c))
    (Iff.and Iff.rfl
    (demand_stays _ (BadStations c) _
    (λ r. good_not_refused ((demand_passes _ (BadContents c) _ (BadStations c) (different (omega arith)) (length-test b c)).0 r).1)
    (stations_test b c))))

company_bad_contents : (b : List ℕ) (c : ℕ) → (company_check b c ≡ Err (BadContents c)) ↔ BadContentsAt b c
company_bad_contents b c = (found, first)
  where
    outer : (company_check b c ≡ Err (BadContents c))
        ↔ (((Placed b c → ⊥) × (BadContents c ≡ BadContents c)) ⊎ (Placed b c × (stations_then_length b c ≡ Err (BadContents c))))
    outer = Iff.trans (regrouped (company_regrouped b c)) (demand_refused (placed_test b c) _ _ (BadContents c) (placed_test_lem b c))

    inner : (stations_then_length b c ≡ Err (BadContents c)) ↔ (StationsHold b c × (LengthHolds b c → ⊥))
    inner =
        Iff.trans (demand_passes _ _ _ (BadContents c) (different (omega arith)) (stations_test b c))
        (Iff.and Iff.rfl (demand_stays _ (BadContents c) (Ok tt) good_not_refused (length-test b c)))

    found : company_check b c ≡ Err (BadContents c) → BadContentsAt b c
    found e = ⊎_elim (λ f. inl f.0) (λ h. let s = inner.0 h.1 in inr (h.0, s.0, s.1)) (outer.0 e)

    first : BadContentsAt b c → company_check b c ≡ Err (BadContents c)
    first (inl f) = outer.1 (inl (f, refl))
    first (inr h) = outer.1 (inr (h.0, inner.1 (h.1, h.2)))

-- all companies, and the first that is wrong
companies_hold : (b : List ℕ) → (first_below (company_check b) (company_count b) ≡ Ok tt) ↔ CompaniesHold b
companies_hold b =
    (λ e c h. company_good b c (first_good (company_check b) _ e c h), λ g. first_holds (company_check b) _ (λ c h. company_holds b c (g c h)))

first_wrong : (b : List ℕ) (c : ℕ) (y : Refusal) (W : Type 0) → place_of y ≡ c → (company_check b c ≡ Err y) ↔ W
    → (first_below (company_check b) (company_count b) ≡ Err y) ↔ FirstWrong b c W
first_wrong b c y W q w = (found, first)
  where
    found : first_below (company_check b) (company_count b) ≡ Err y → FirstWrong b c W
    found e =
        let h = rw q at ((first_at_lem (company_check b) (company_count b) (λ k. company_names (λ x. place_of x ≡ k) b k refl refl) y).0 e) in
        record { below = h.0; before = λ d l. company_good b d (h.1 d l); wrong = w.0 h.2 }

    first : FirstWrong b c W → first_below (company_check b) (company_count b) ≡ Err y
    first f = (first_names (company_check b) (company_count b) y).1 (c, f.below, λ d l. company_holds b d (f.before d l), w.1 f.wrong)

-- the links' entry, and the rules' with the book's end

-- a check that names entry `at` alone
entry_wrong : {P : Type 0} (a : Judged) (at e : ℕ) → Names (λ y. y ≡ BadContents at) a → (a ≡ Ok tt) ↔ P
    → (a ≡ Err (BadContents e)) ↔ ((e ≡ at) × (P → ⊥))
entry_wrong {P} a at e o p = (found, λ h. (refused_with a (BadContents at) o p).1 h.1 ∙ ap (λ (m : ℕ). Err (BadContents m)) (sym h.0))
  where
    found : a ≡ Err (BadContents e) → (e ≡ at) × (P → ⊥)
    found r = let q = o _ r in (cc, λ h. refused_not_good (sym r ∙ p.1 h))

links_hold : (b : List ℕ) → (list_check b (links_entry b) (link_length * link_count b) ≡ Ok tt) ↔ LinksHold b
links_hold b = (list_good b _ _, list_holds b _ _)

rules_hold : (b : List ℕ) → (list_check b (rules_entry b) (rule_length * rule_count b) and_then end_check b ≡ Ok tt) ↔ RulesHold b
rules_hold b = (
  λ e. let s = then_good _ _ e in record { rules = list_good b _ _ s.0; ends = end_good b s.1 },
  λ h. then_next _ _ (list_holds b _ _ h.rules) ∙ end_holds b h.ends,
)

rules_names : (Q : Refusal → Type 0) (b : List ℕ) → Q (BadContents (rules_entry b))
    → Names Q (list_check b (rules_entry b) (rule_length * rule_count b) and_then end_check b)
rules_names Q b p = names_then Q _ _ (list_names Q b (rules_entry b) _ p) (end_names Q b p)

-- ---- the theorems: 4 and 5

pub bad_stations : (b : List ℕ) (c : ℕ) → (book_check b ≡ Err (BadStations c)) ↔ (Header b × FirstWrong b c (BadStationsAt b c))
unfolding contents_check
bad_stations b c =
    Iff.trans (contents_refused b (BadStations c) (omega arith) (omega arith))
    (Iff.and Iff.rfl
    (Iff.trans (then_stays _ _ (BadStations c) after) (first_wrong b c (BadStations c) (BadStationsAt b c) refl (company_bad_stations b c))))
  where
    after : list_check b (links_entry b) (link_length * link_count b) and_then (list_check b (rules_entry b) (rule_length * rule_count b) and_then end_check b) ≡ Err (BadStations c) → ⊥
    after r =
        let w = names_then (Between 4 4) _ _ (list_names (Between 4 4) b (links_entry b) _ (omega arith)) (rules_names (Between 4 4) b (omega arith)) (BadStations c) r in
        omega arith

pub bad_contents : (b : List ℕ) (e : ℕ) → (book_check b ≡ Err (BadContents e)) ↔ (Header b × WrongEntry b e)
unfolding contents_check
bad_contents b e =
    Iff.trans (contents_refused b (BadContents e) (omega arith) (omega arith)) (Iff.and Iff.rfl (found, first))
  where
    companies : (first_below (company_check b) (company_count b) ≡ Err (BadContents e)) ↔ FirstWrong b e (BadContentsAt b e)
    companies = first_wrong b e (BadContents e) (BadContentsAt b e) refl (company_bad_contents b e)

    links : (list_check b (links_entry b) (link_length * link_count b) ≡ Err (BadContents e)) ↔ ((e ≡ links_entry b) × (LinksHold b → ⊥))
    links = entry_wrong _ (links_entry b) e (list_names (λ x. x ≡ BadContents (links_entry b)) b (links_entry b) _ refl) (links_hold b)

    rules : (list_check b (rules_entry b) (rule_length * rule_count b) and_then end_check b ≡ Err (BadContents e))
        ↔ ((e ≡ rules_entry b) × (RulesHold b → ⊥))
    rules = entry_wrong _ (rules_entry b) e (rules_names (λ x. x ≡ BadContents (rules_entry b)) b refl) (rules_hold b)

    found : contents_check b ≡ Err (BadContents e) → WrongEntry b e
    found r =
        ⊎_elim
        (λ f. inl (companies.0 f))
        (λ s.
        ⊎_elim
        (λ l. let w = links.0 l in inr (inl (w.0, s.0, w.1)))
        (λ t. let w = rules.0 t.1 in inr (inr (w.0, s.0, t.0, w.1)))
        ((then_names _ _ _ (links_hold b)).0 s.1))
        ((then_names _ _ _ (companies_hold b)).0 r)

    first : WrongEntry b e → contents_check b ≡ Err (BadContents e)
    first (inl f) = (then_names _ _ _ (companies_hold b)).1 (inl (companies.1 f))
    first (inr (inl h)) =
        (then_names _ _ _ (companies_hold b)).1 (inr (h.1, (then_names _ _ _ (links_hold b)).1 (inl (links.1 (h.0, h.2)))))
    first (inr (inr h)) =
        (then_names _ _ _ (companies_hold b)).1 (inr (h.1, (then_names _ _ _ (links_hold b)).1 (inr (h.2, rules.1 (h.0, h.3)))))

-- ---- 1 to 3

abbrev limits_test : List ℕ → Bool
limits_test b = both (within 1 (company_count b) most_companies) (both (leb (link_count b) most_links) (leb (rule_count b) most_rules))

-- the header's check, with its three limits taken together
abbrev limits_then_contents : List ℕ → Judged
limits_then_contents b = demand (limits_test b) OutsideLimits (demand (leb (first_body b) (length b)) WrongLength (Ok tt))

limits_names : (Q : Refusal → Type 0) (b : List ℕ) → Q OutsideLimits → Q WrongLength → Names Q (limits_then_contents b)
limits_names Q b p q = names_demand Q _ OutsideLimits _ p (names_demand Q _ WrongLength _ q (names_good Q))

limits_test_lem : (b : List ℕ) → (limits_test b ≡ true) ↔ Limits b
limits_test_lem b = (tells, λ l. both_holds _ _ (within_holds _ _ _ l.companies) (both_holds _ _ (le-leb _ _ l.links) (le-leb _ _ l.rules)))
  where
    tells : limits_test b ≡ true → Limits b
    tells e =
        let p = both_true _ _ e in
        let q = both_true _ _ p.1 in
        record { companies = within_true _ _ _ p.0; links = leb-true _ _ q.0; rules = leb-true _ _ q.1 }

header_regrouped : (b : List ℕ) → header_check b
    ≡ demand (leb header_length (length b)) WrongLength (demand (eqb (layout_number b) 1) UnknownLayout (limits_then_contents b))
unfolding header_check
header_regrouped b = rw (← demand_both, ← demand_both)

present_test : (b : List ℕ) → (leb header_length (length b) ≡ true) ↔ (header_length ≤ length b)
present_test b = (leb-true _ _, le-leb _ _)

layout_test : (b : List ℕ) → (eqb (layout_number b) 1 ≡ true) ↔ (layout_number b ≡ 1)
layout_test b = (eqb-true _ _, eq-eqb _ _)

contents_test : (b : List ℕ) → (leb (first_body b) (length b) ≡ true) ↔ (first_body b ≤ length b)
contents_test b = (leb-true _ _, le-leb _ _)

-- ---- the theorems: 1 to 3

pub unknown_layout : (b : List ℕ) → (book_check b ≡ Err UnknownLayout) ↔ ((header_length ≤ length b) × (layout_number b ≡ 1 → ⊥))
unknown_layout b =
    Iff.trans (header_refused b UnknownLayout (omega arith))
    (Iff.trans (regrouped (header_regrouped b))
    (Iff.trans (demand_passes _ _ _ UnknownLayout (different (omega arith)) (present_test b))
    (Iff.and Iff.rfl (demand_stays _ UnknownLayout _
    (λ r. limits_names (λ x. x ≡ UnknownLayout → ⊥) b (different (omega arith)) (different (omega arith)) UnknownLayout r refl)
    (layout_test b)))))

pub outside_limits : (b : List ℕ) → (book_check b ≡ Err OutsideLimits)
    ↔ ((header_length ≤ length b) × (layout_number b ≡ 1) × (Limits b → ⊥))
outside_limits b =
    Iff.trans (header_refused b OutsideLimits (omega arith))
    (Iff.trans (regrouped (header_regrouped b))
    (Iff.trans (demand_passes _ _ _ OutsideLimits (different (omega arith)) (present_test b))
    (Iff.trans
    (Iff.and Iff.rfl
    (Iff.trans (demand_passes _ _ _ OutsideLimits (different (omega arith)) (layout_test b))
    (Iff.and Iff.rfl
    (demand_stays _ OutsideLimits _
    (λ r. names_demand (λ x. x ≡ OutsideLimits → ⊥) _ WrongLength _ (different (omega arith)) (names_good _) OutsideLimits r refl)
    (limits_test_lem b)))))
    three)))

-- "fewer than 4 bytes is 1; .. contents cut is 1"
pub wrong_length : (b : List ℕ) → (book_check b ≡ Err WrongLength)
    ↔ ((length b < header_length) ⊎ ((header_length ≤ length b) × (layout_number b ≡ 1) × Limits b × (length b < first_body b)))
wrong_length b = Iff.trans (header_refused b WrongLength (omega arith)) (Iff.trans (regrouped (header_regrouped b)) (found, first))
  where
    rest : (demand (eqb (layout_number b) 1) UnknownLayout (limits_then_contents b) ≡ Err WrongLength)
        ↔ ((layout_number b ≡ 1) × (Limits b × (first_body b ≤ length b → ⊥)))
    rest =
        Iff.trans (demand_passes _ _ _ WrongLength (different (omega arith)) (layout_test b))
        (Iff.and Iff.rfl
        (Iff.trans (demand_passes _ _ _ WrongLength (different (omega arith)) (limits_test_lem b))
        (Iff.and Iff.rfl (demand_stays _ WrongLength (Ok tt) good_not_refused (contents_test b)))))

    found : demand (leb header_length (length b)) WrongLength (demand (eqb (layout_number b) 1) UnknownLayout (limits_then_contents b)) ≡ Err WrongLength
        → (length b < header_length) ⊎ ((header_length ≤ length b) × (layout_number b ≡ 1) × Limits b × (length b < first_body b))
    found r =
        ⊎_elim
        (λ f. inl (let n = f.0 in omega arith))
        (λ h. let s = rest.0 h.1 in let n = s.1.1 in inr (h.0, s.0, s.1.0, omega arith))
        ((demand_refused _ _ _ WrongLength (present_test b)).0 r)

    first : (length b < header_length) ⊎ ((header_length ≤ length b) × (layout_number b ≡ 1) × Limits b × (length b < first_body b))
        → demand (leb header_length (length b)) WrongLength (demand (eqb (layout_number b) 1) UnknownLayout (limits_then_contents b)) ≡ Err WrongLength
    first (inl l) = (demand_refused _ _ _ WrongLength (present_test b)).1 (inl (λ h. omega arith, refl))
    first (inr h) =
        let l = h.3 in
        (demand_refused _ _ _ WrongLength (present_test b)).1 (inr (h.0, rest.1 (h.1, (h.2, λ p. omega arith))))

-- ---- every book

-- x is the refusal of the book, the only one, and one of the first eight
pub record RefusedWith (b : List ℕ) (x : Refusal) : Type 0 where
  pub named : book_check b ≡ Err x
  pub only : (y : Refusal) → book_check b ≡ Err y → x ≡ y
  pub number : Within 1 (number_of x) 8
  pub invalid : ValidBook b → ⊥

pub valid_or_refused : (b : List ℕ) → ValidBook b ⊎ ((x : Refusal) × RefusedWith b x)
valid_or_refused b = go (book_check b) refl
  where
    go : (a : Judged) → book_check b ≡ a → ValidBook b ⊎ ((x : Refusal) × RefusedWith b x)
    go (Ok _) e = inl ((book_good b).0 e)
    go (Err x) e =
        inr (
          x,
          record {
            named = e;
            only = λ y r. cc;
            number = book_numbers b x e;
            invalid = λ v. refused_not_good (sym e ∙ (book_good b).1 v);
          },
        )
