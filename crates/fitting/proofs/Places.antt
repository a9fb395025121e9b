-- The places that refusals name fit the word's 24 bits.
use Prim.Native.Nat.{ℕ, zero, suc, ◌+◌, ◌*◌, ◌≤◌, ◌<◌}
use Rattle.std.proofs.Common.{Ok, Err}
use mathlib.Core.Path.{◌≡◌, refl}
use mathlib.Core.Bool.{Bool, true, false}
use mathlib.Core.List.{List}
use mathlib.Core.Logic.{⊎_elim}
use native.Mathlib.Omega.{arith}
use lib.ListN.{length}
use Rattle.outline.specs.declared.Refusal.{Refusal}
use Rattle.outline.specs.declared.Refusal.TheVariants.{WrongLength, UnknownLayout, OutsideLimits, BadContents, BadStations, BadEntry, BadLink, BadRule, UnknownStation, SameStation, BadLimit, NoRoute, NoRoom, BadRide}
use Rattle.outline.specs.declared.Question.{Question}
use Rattle.outline.specs.Refusals.{place_of, demand, ◌and_then◌, first_below, Judged}
use Rattle.outline.specs.Fares.{Fares, table_at}
use Rattle.outline.specs.Network.{Network, network_of}
use Rattle.outline.specs.Book.{network, fares_of, company_count, offset_of, end_before, body_of, station_count}
use Rattle.outline.specs.Valid.{LaidOut}
use Rattle.outline.specs.Judging.{entry_check, row_check, table_check, tables_check, link_check, rule_check, fares_check, book_check, entry_offset}
use Rattle.outline.specs.Sheet.{companies_in, company_start, stations_in, fares_in}
use Rattle.outline.specs.SheetValid.{GoodCounts, CompanyNumbers, SheetLaidOut}
use Rattle.outline.specs.SheetJudging.{counts_check, numbers_check, remainder_check, entry_index, sheet_check}
use Rattle.outline.specs.Routes.{good_length, route_of, ride_check, route_check}
use Rattle.outline.specs.Questions.{question_check}
use Rattle.laws.proofs.Named.{Names, names_good, names_demand, names_then}
use Rattle.laws.proofs.Given.{route_length, whole_is}
use Rattle.laws.proofs.Order.{book_numbers, bad_contents, bad_stations, bad_entry, bad_link, bad_rule}
use Rattle.laws.proofs.Reading.{cell, small_product, network_stations, network_links, network_rules, tables_count}
use Rattle.laws.proofs.Sheet.{companies_in_lem, links_in_lem, rules_in_lem, stations_in_lem, counts_good, companies_good, laid_good}
use Rattle.telling.specs.Word.{most_place}

abbrev pub Small : Refusal → Type 0
Small x = place_of x < most_place

-- what comes after a test is looked at only where the test holds
names_where : (Q : Refusal → Type 0) (t : Bool) (x : Refusal) (next : Judged) → Q x → (t ≡ true → Names Q next) → Names Q (demand t x next)
unfolding demand
names_where Q true x next q r = names_demand Q true x next q (r refl)
names_where Q false x next q r = names_demand Q false x (Ok tt) q (names_good Q)

-- what comes after a check is looked at only where it is good
names_onward : (Q : Refusal → Type 0) (a next : Judged) → Names Q a → (a ≡ Ok tt → Names Q next) → Names Q (a and_then next)
unfolding ◌and_then◌
names_onward Q (Ok _) next p r = r refl
names_onward Q (Err x) next p r = p

-- of so many checks the refusal is one's of these
names_below : (Q : Refusal → Type 0) (f : ℕ → Judged) (n : ℕ) → ((k : ℕ) → k < n → Names Q (f k)) → Names Q (first_below f n)
unfolding first_below
names_below Q f zero p = names_good Q
names_below Q f (suc n) p = names_then Q (first_below f n) (f n) (names_below Q f n (λ k h. p k (omega arith))) (p n (omega arith))

-- ---- a book

-- where a body begins: after the contents and the bodies before it
pub offset_small : (b : List ℕ) → LaidOut b → (c : ℕ) → c < company_count b → offset_of b c ≤ 76 + 3201 * c
unfolding end_before
offset_small b w zero h = omega (arith, (w.companies 0 h).body.follows, w.header.companies.to)
offset_small b w (suc c) h =
    let before = offset_small b w c (omega arith) in
    let body = w.companies c (omega arith) in
    let n = station_count (body_of b c) in
    let few = small_product 40 body.stations.to body.stations.to in
    omega (arith, (w.companies (suc c) h).body.follows, body.long)

entry_small : (b : List ℕ) (p : ℕ) → book_check b ≡ Err (BadEntry p) → p < most_place
unfolding entry_offset network network_of
entry_small b p e =
    let (laid, found) = (bad_entry b p).0 e in
    let (c, i, j, q, f) = found in
    let here : c < company_count b = omega (arith, tables_count b, f.company) in
    let n : ℕ = station_count (body_of b c) in
    let same : (table_at (fares_of b) c).stations ≡ n = network_stations b c here in
    let inside : i * n + j < n * n = cell n i j (rw same at f.entry.row) (rw same at f.entry.column) in
    let few = small_product 40 (laid.companies c here).stations.to (laid.companies c here).stations.to in
    omega (arith, offset_small b laid c here, laid.header.companies.to)

pub book_places : (b : List ℕ) → Names Small (book_check b)
book_places b WrongLength e = omega arith
book_places b UnknownLayout e = omega arith
book_places b OutsideLimits e = omega arith
book_places b (BadContents k) e =
    let (h, w) = (bad_contents b k).0 e in
    let few = h.companies.to in
    ⊎_elim (λ f. let l = f.below in omega arith) (λ r. ⊎_elim (λ f. let l = f.0 in omega arith) (λ f. let l = f.0 in omega arith) r) w
book_places b (BadStations k) e =
    let (h, w) = (bad_stations b k).0 e in
    omega (arith, h.companies.to, w.below)
book_places b (BadEntry p) e = entry_small b p e
book_places b (BadLink k) e =
    let (w, tables, found) = (bad_link b k).0 e in
    omega (arith, network_links b, w.header.links, found.below)
book_places b (BadRule k) e =
    let (w, tables, links, found) = (bad_rule b k).0 e in
    omega (arith, network_rules b, w.header.rules, found.below)
book_places b (UnknownStation k) e = absurd (omega (arith, (book_numbers b (UnknownStation k) e).to))
book_places b SameStation e = omega arith
book_places b BadLimit e = omega arith
book_places b NoRoute e = omega arith
book_places b NoRoom e = omega arith
book_places b (BadRide k) e = absurd (omega (arith, (book_numbers b (BadRide k) e).to))

-- ---- a given route, and a question

few_rides : (bytes : List ℕ) → good_length (length bytes) ≡ true → length (route_of bytes) ≤ 4
few_rides bytes h = omega (arith, route_length bytes, ((whole_is (length bytes)).0 h).few.to)

pub route_places : (N : Network) (bytes : List ℕ) → Names Small (route_check N bytes)
unfolding route_check ride_check
route_places N bytes =
    names_where Small _ (BadRide 0) _ (omega arith)
    (λ h. let few = few_rides bytes h in
    names_below Small (ride_check N (route_of bytes)) _ (λ k l. names_demand Small _ (BadRide k) _ (omega arith) (names_good Small)))

pub question_places : (N : Network) (q : Question) → Names Small (question_check N q)
unfolding question_check
question_places N q =
    names_demand Small _ (UnknownStation 0) _ (omega arith)
    (names_demand Small _ (UnknownStation 1) _ (omega arith)
    (names_demand Small _ SameStation _ (omega arith)
    (names_demand Small _ BadLimit _ (omega arith) (names_good Small))))

-- ---- a sheet

-- where the numbers of a company begin: after the counts and the companies before it
start_small : (s : List ℕ) (n : ℕ) → ((c : ℕ) → c < n → CompanyNumbers s c) → company_start s n ≤ 3 + 1601 * n
unfolding company_start
start_small s zero w = omega arith
start_small s (suc n) w =
    let before = start_small s n (λ c h. w c (omega arith)) in
    let few = (w n (omega arith)).stations.to in
    let square = small_product 40 few few in
    omega arith

-- the places of what a sheet's entries, links and rules are refused for
fares_places : (place : ℕ → ℕ → ℕ → ℕ) (F : Fares)
    → ((c i j : ℕ) → c < length F.tables → i < (table_at F c).stations → j < (table_at F c).stations → place c i j < most_place)
    → length F.links ≤ 128 → length F.rules ≤ 32 → Names Small (fares_check place F)
unfolding fares_check tables_check table_check row_check entry_check link_check rule_check network_of
fares_places place F entry links rules =
    names_then Small _ _
    (names_below Small (λ c. table_check (place c) (table_at F c)) _
    (λ c h. names_below Small (row_check (place c) (table_at F c)) _
    (λ i k. names_below Small (entry_check (place c) (table_at F c) i) _
    (λ j l. names_demand Small _ (BadEntry (place c i j)) _ (entry c i j h k l) (names_good Small)))))
    (names_then Small _ _
    (names_below Small (link_check (network_of F)) _
    (λ k h. names_demand Small _ (BadLink k) _ (omega arith) (names_demand Small _ (BadLink k) _ (omega arith) (names_good Small))))
    (names_below Small (rule_check (network_of F)) _ (λ k h. names_demand Small _ (BadRule k) _ (omega arith) (names_good Small))))

index_small : (s : List ℕ) → SheetLaidOut s → (c i j : ℕ) → c < length (fares_in s).tables → i < (table_at (fares_in s) c).stations
    → j < (table_at (fares_in s) c).stations → entry_index s c i j < most_place
unfolding entry_index
index_small s w c i j h row column =
    let here : c < companies_in s = omega (arith, companies_in_lem s) in
    let n : ℕ = stations_in s c in
    let same : (table_at (fares_in s) c).stations ≡ n = stations_in_lem s c here in
    let inside : i * n + j < n * n = cell n i j (rw same at row) (rw same at column) in
    let few = small_product 40 (w.companies c here).stations.to (w.companies c here).stations.to in
    omega (arith, start_small s c (λ d l. w.companies d (omega arith)), w.counts.companies.to)

pub sheet_places : (s : List ℕ) → Names Small (sheet_check s)
unfolding sheet_check counts_check numbers_check remainder_check
sheet_places s =
    names_onward Small (counts_check s) _ counts
    (λ g. let known = counts_good s g in
    names_onward Small (first_below (numbers_check s) (companies_in s)) _ (companies known)
    (λ h. names_onward Small (remainder_check s) _ (names_demand Small _ WrongLength _ (omega arith) (names_good Small))
    (λ r. let laid = laid_good s known (companies_good s (companies_in s) h) r in
    fares_places (entry_index s) (fares_in s) (index_small s laid) (omega (arith, links_in_lem s, known.links)) (omega (arith, rules_in_lem s, known.rules)))))
  where
    counts : Names Small (counts_check s)
    counts =
        names_demand Small _ WrongLength _ (omega arith)
        (names_demand Small _ OutsideLimits _ (omega arith)
        (names_demand Small _ OutsideLimits _ (omega arith)
        (names_demand Small _ OutsideLimits _ (omega arith) (names_good Small))))

    companies : GoodCounts s → Names Small (first_below (numbers_check s) (companies_in s))
    companies known =
        names_below Small (numbers_check s) _
        (λ c h. let few = known.companies.to in
        names_demand Small _ WrongLength _ (omega arith)
        (names_demand Small _ (BadStations c) _ (omega arith)
        (names_demand Small _ WrongLength _ (omega arith) (names_good Small))))
