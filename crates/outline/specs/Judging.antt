-- Document 01, "What is refused, and when": the refusals of a book, in the outline's order.
use Rattle.std.specs.Prelude.{ℕ, ◌+◌, ◌-◌, ◌*◌, Bool, not, List, [], length, get_or, leb, ltb, eqb, Ok, Err}
use Rattle.outline.specs.declared.Link.{Link}
use Rattle.outline.specs.declared.Refusal.TheVariants.{WrongLength, UnknownLayout, OutsideLimits, BadContents, BadStations, BadEntry, BadLink, BadRule}
use Rattle.outline.specs.Numbers.{most_companies, least_stations, most_stations, most_links, most_rules, most_fare, most_amount, least_run, most_run, no_company}
use Rattle.outline.specs.Tests.{both, either, choose, within, all_below, some_below}
use Rattle.outline.specs.Refusals.{demand, ◌and_then◌, first_below, Judged}
use Rattle.outline.specs.declared.Rule.{Rule}
use Rattle.outline.specs.Fares.{Table, Fares, fare_at, table_at, company_at, in_map}
use Rattle.outline.specs.Network.{Network, network_of, same_station}
use Rattle.outline.specs.Book.{layout_number, company_count, link_count, rule_count, header_length, offset_of, length_of, links_entry, rules_entry, first_body, end_before, body_of, company_length, station_count, entry_place, link_length, rule_length, fares_of}

-- "fewer than 4 bytes is 1; then 2; 3; contents cut is 1."
unfoldable pub header_check : List ℕ → Judged
header_check b =
    demand (leb header_length (length b)) WrongLength
    (demand (eqb (layout_number b) 1) UnknownLayout
    (demand (within 1 (company_count b) most_companies) OutsideLimits
    (demand (leb (link_count b) most_links) OutsideLimits
    (demand (leb (rule_count b) most_rules) OutsideLimits
    (demand (leb (first_body b) (length b)) WrongLength
    (Ok tt))))))

-- "Per company: offset differs from the end of the part before, length 0, or body past the book's end is 4; then 5; then length not
-- 1 + 2n² is 4."
unfoldable pub company_check : List ℕ → ℕ → Judged
company_check b c =
    demand (eqb (offset_of b c) (end_before b c)) (BadContents c)
    (demand (ltb 0 (length_of b c)) (BadContents c)
    (demand (leb (offset_of b c + length_of b c) (length b)) (BadContents c)
    (demand (within least_stations (station_count (body_of b c)) most_stations) (BadStations c)
    (demand (eqb (length_of b c) (company_length (station_count (body_of b c)))) (BadContents c)
    (Ok tt)))))

-- "Then links and rules entries, 4: wrong offset, body past the book's end, or length not 4L or 33R"
unfoldable pub list_check : List ℕ → ℕ → ℕ → Judged
list_check b e bytes =
    demand (eqb (offset_of b e) (end_before b e)) (BadContents e)
    (demand (leb (offset_of b e + length_of b e) (length b)) (BadContents e)
    (demand (eqb (length_of b e) bytes) (BadContents e)
    (Ok tt)))

-- "(bytes left over are the last entry, here C + 1)"
unfoldable pub end_check : List ℕ → Judged
end_check b = demand (eqb (offset_of b (rules_entry b) + length_of b (rules_entry b)) (length b)) (BadContents (rules_entry b)) (Ok tt)

unfoldable pub contents_check : List ℕ → Judged
contents_check b =
    first_below (company_check b) (company_count b)
    and_then list_check b (links_entry b) (link_length * link_count b)
    and_then list_check b (rules_entry b) (rule_length * rule_count b)
    and_then end_check b

-- 6: "diagonal not 0, or an entry above 9,999"
unfoldable pub good_entry : ℕ → ℕ → ℕ → Bool
good_entry i j x = choose (eqb i j) (eqb x 0) (leb x most_fare)

unfoldable pub entry_check : (ℕ → ℕ → ℕ) → Table → ℕ → ℕ → Judged
entry_check place t i j = demand (good_entry i j (fare_at t i j)) (BadEntry (place i j)) (Ok tt)

unfoldable pub row_check : (ℕ → ℕ → ℕ) → Table → ℕ → Judged
row_check place t i = first_below (entry_check place t i) t.stations

unfoldable pub table_check : (ℕ → ℕ → ℕ) → Table → Judged
table_check place t = first_below (row_check place t) t.stations

unfoldable pub tables_check : (ℕ → ℕ → ℕ → ℕ) → Fares → Judged
tables_check place F = first_below (λ c. table_check (place c) (table_at F c)) (length F.tables)

-- 7: "The first company is less than the second. Both stations exist."
unfoldable pub good_link : Network → Link → Bool
good_link N l =
    both (ltb l.one.company l.other.company)
    (both (ltb l.other.company N.companies)
    (both (ltb l.one.number (N.stations l.one.company))
    (ltb l.other.number (N.stations l.other.company))))

unfoldable pub same_link : Link → Link → Bool
same_link x y = both (same_station x.one y.one) (same_station x.other y.other)

-- "a repeated link is refused at its second occurrence"
unfoldable pub repeated : Network → ℕ → Bool
repeated N k = some_below (λ j. same_link (N.link j) (N.link k)) k

unfoldable pub link_check : Network → ℕ → Judged
link_check N k = demand (good_link N (N.link k)) (BadLink k) (demand (not (repeated N k)) (BadLink k) (Ok tt))

-- 8: "m (2 to 4); four company bytes, the first m existing, neighbours different, the rest 255"
unfoldable pub good_company : ℕ → ℕ → List ℕ → ℕ → Bool
good_company known rides companies i =
    choose (ltb i rides)
    (both (ltb (get_or companies i 0) known) (either (eqb i 0) (not (eqb (get_or companies (i - 1) 0) (get_or companies i 0)))))
    (eqb (get_or companies i 0) no_company)

-- "A bit beyond the last station or link is an error."
unfoldable pub good_map : List ℕ → ℕ → Bool
good_map map items =
    both (all_below (λ i. ltb (get_or map i 0) 256) (length map))
    (all_below (λ i. either (ltb i items) (not (in_map map i))) (8 * length map))

unfoldable pub good_maps : Network → Rule → Bool
good_maps N r =
    both (good_map r.boarding (N.stations (company_at r 0)))
    (both (good_map r.alighting (N.stations (company_at r (r.rides - 1))))
    (good_map r.permitted N.links))

unfoldable pub good_rule : Network → Rule → Bool
good_rule N r =
    both (within least_run r.rides most_run)
    (both (all_below (good_company N.companies r.rides r.companies) most_run)
    (both (within 1 r.amount most_amount)
    (good_maps N r)))

unfoldable pub rule_check : Network → ℕ → Judged
rule_check N k = demand (good_rule N (N.rule k)) (BadRule k) (Ok tt)

-- "Then all of 6, all of 7, all of 8, each at its first place"; `place` tells an entry's place
unfoldable pub fares_check : (ℕ → ℕ → ℕ → ℕ) → Fares → Judged
fares_check place F =
    tables_check place F
    and_then first_below (link_check (network_of F)) (network_of F).links
    and_then first_below (rule_check (network_of F)) (network_of F).rules

-- 6: "offset in the book of the entry's first byte"
unfoldable pub entry_offset : List ℕ → ℕ → ℕ → ℕ → ℕ
entry_offset b c i j = offset_of b c + entry_place (station_count (body_of b c)) i j

unfoldable pub book_check : List ℕ → Judged
book_check b = header_check b and_then contents_check b and_then fares_check (entry_offset b) (fares_of b)

-- "A company's body, asked for by its number, is handed back as a part of the book itself; where the book is refused or has no such
-- company, the part is empty, and only then."
unfoldable pub where_good {ℓ} : {A : Type ℓ} → Judged → A → A → A
where_good (Ok _) a b = a
where_good (Err x) a b = b

unfoldable pub company_body : List ℕ → ℕ → List ℕ
company_body b c = where_good (book_check b) (choose (ltb c (company_count b)) (body_of b c) []) []

-- the place in the book where that part begins, 0 where it is empty
unfoldable pub company_offset : List ℕ → ℕ → ℕ
company_offset b c = where_good (book_check b) (choose (ltb c (company_count b)) (offset_of b c) 0) 0
