-- What is refused and what is valid: each check of a book is good exactly where the part that it judges is valid.
use Prim.Native.Nat.{ℕ, zero, suc, ◌+◌, ◌-◌, ◌*◌, ◌≤◌, ◌<◌}
use Rattle.std.proofs.Common.{Ok, IsTrue}
use Rattle.std.proofs.lemmas.List.{ext_get_or}
use mathlib.Core.Path.{◌≡◌, refl, sym, ap, ap₂, ◌∙◌}
use mathlib.Core.Bool.{Bool, true, false, not}
use mathlib.Core.List.{List}
use mathlib.Core.Logic.{⊎_elim, ◌↔◌}
use native.Mathlib.Omega.{arith}
use lib.ListN.{length, get_or}
use lib.Dec.{leb, ltb, eqb}
use borrow.Author.Tests.{leb-true, ltb-true, ltb-false, eqb-true, eqb-false, not-true, le-leb, lt-ltb, le-ltb, eq-eqb, ne_eqb}
use Rattle.outline.specs.declared.Station.{Station}
use Rattle.outline.specs.declared.Link.{Link}
use Rattle.outline.specs.Numbers.{most_fare, least_run, most_run, no_company}
use Rattle.outline.specs.Tests.{both, either, choose, within, all_below}
use Rattle.outline.specs.declared.Rule.{Rule}
use Rattle.outline.specs.Fares.{Table, Fares, fare_at, table_at, company_at, in_map}
use Rattle.outline.specs.Network.{Network, network_of, same_station}
use Rattle.outline.specs.Book.{offset_of, length_of, rules_entry, fares_of}
use Rattle.outline.specs.Sheet.{link_numbers, link_in}
use Rattle.outline.specs.Valid.{Header, CompanyBody, ListBody, LaidOut, GoodEntry, GoodTable, GoodLink, Once, GoodMap, GoodRule, GoodFares, ValidBook}
use Rattle.outline.specs.Judging.{header_check, company_check, list_check, end_check, contents_check, good_entry, entry_check, row_check, table_check, tables_check, good_link, same_link, repeated, link_check, good_company, good_map, good_maps, good_rule, rule_check, fares_check, entry_offset, book_check}
use Rattle.laws.proofs.Tests.{true_not_false, fails, both_true, both_holds, either_true, either_second, within_true, within_holds, all_true, all_holds, some_false, none_holds}
use Rattle.laws.proofs.Firsts.{demand_good, demand_holds, then_good, then_next, first_good, first_holds}

-- ---- the header

pub header_good : (b : List ℕ) → header_check b ≡ Ok tt → Header b
unfolding header_check
header_good b e =
    let s1 = demand_good _ _ _ e in
    let s2 = demand_good _ _ _ s1.1 in
    let s3 = demand_good _ _ _ s2.1 in
    let s4 = demand_good _ _ _ s3.1 in
    let s5 = demand_good _ _ _ s4.1 in
    let s6 = demand_good _ _ _ s5.1 in
    record {
      present = leb-true _ _ s1.0;
      layout = eqb-true _ _ s2.0;
      companies = within_true _ _ _ s3.0;
      links = leb-true _ _ s4.0;
      rules = leb-true _ _ s5.0;
      contents = leb-true _ _ s6.0;
    }

pub header_holds : (b : List ℕ) → Header b → header_check b ≡ Ok tt
unfolding header_check
header_holds b h =
    demand_holds _ _ _ (le-leb _ _ h.present)
    ∙ demand_holds _ _ _ (eq-eqb _ _ h.layout)
    ∙ demand_holds _ _ _ (within_holds _ _ _ h.companies)
    ∙ demand_holds _ _ _ (le-leb _ _ h.links)
    ∙ demand_holds _ _ _ (le-leb _ _ h.rules)
    ∙ demand_holds _ _ _ (le-leb _ _ h.contents)

-- ---- the contents

pub company_good : (b : List ℕ) (c : ℕ) → company_check b c ≡ Ok tt → CompanyBody b c
unfolding company_check
company_good b c e =
    let s1 = demand_good _ _ _ e in
    let s2 = demand_good _ _ _ s1.1 in
    let s3 = demand_good _ _ _ s2.1 in
    let s4 = demand_good _ _ _ s3.1 in
    let s5 = demand_good _ _ _ s4.1 in
    record {
      body = record { follows = eqb-true _ _ s1.0; inside = leb-true _ _ s3.0 };
      stations = within_true _ _ _ s4.0;
      long = eqb-true _ _ s5.0;
    }

pub company_holds : (b : List ℕ) (c : ℕ) → CompanyBody b c → company_check b c ≡ Ok tt
unfolding company_check
company_holds b c h =
    let some : 0 < length_of b c = omega (arith, h.long) in
    demand_holds _ _ _ (eq-eqb _ _ h.body.follows)
    ∙ demand_holds _ _ _ (lt-ltb _ _ some)
    ∙ demand_holds _ _ _ (le-leb _ _ h.body.inside)
    ∙ demand_holds _ _ _ (within_holds _ _ _ h.stations)
    ∙ demand_holds _ _ _ (eq-eqb _ _ h.long)

pub list_good : (b : List ℕ) (e bytes : ℕ) → list_check b e bytes ≡ Ok tt → ListBody b e bytes
unfolding list_check
list_good b e bytes p =
    let s1 = demand_good _ _ _ p in
    let s2 = demand_good _ _ _ s1.1 in
    let s3 = demand_good _ _ _ s2.1 in
    record {
      body = record { follows = eqb-true _ _ s1.0; inside = leb-true _ _ s2.0 };
      long = eqb-true _ _ s3.0;
    }

pub list_holds : (b : List ℕ) (e bytes : ℕ) → ListBody b e bytes → list_check b e bytes ≡ Ok tt
unfolding list_check
list_holds b e bytes h =
    demand_holds _ _ _ (eq-eqb _ _ h.body.follows)
    ∙ demand_holds _ _ _ (le-leb _ _ h.body.inside)
    ∙ demand_holds _ _ _ (eq-eqb _ _ h.long)

pub end_good : (b : List ℕ) → end_check b ≡ Ok tt → offset_of b (rules_entry b) + length_of b (rules_entry b) ≡ length b
unfolding end_check
end_good b e = eqb-true _ _ (demand_good _ _ _ e).0

pub end_holds : (b : List ℕ) → offset_of b (rules_entry b) + length_of b (rules_entry b) ≡ length b → end_check b ≡ Ok tt
unfolding end_check
end_holds b h = demand_holds _ _ _ (eq-eqb _ _ h)

pub contents_good : (b : List ℕ) → Header b → contents_check b ≡ Ok tt → LaidOut b
unfolding contents_check
contents_good b h e =
    let s1 = then_good _ _ e in
    let s2 = then_good _ _ s1.1 in
    let s3 = then_good _ _ s2.1 in
    record {
      header = h;
      companies = λ c l. company_good b c (first_good (company_check b) _ s1.0 c l);
      links = list_good b _ _ s2.0;
      rules = list_good b _ _ s3.0;
      ends = end_good b s3.1;
    }

pub contents_holds : (b : List ℕ) → LaidOut b → contents_check b ≡ Ok tt
unfolding contents_check
contents_holds b h =
    then_next _ _ (first_holds (company_check b) _ (λ c l. company_holds b c (h.companies c l)))
    ∙ then_next _ _ (list_holds b _ _ h.links)
    ∙ then_next _ _ (list_holds b _ _ h.rules)
    ∙ end_holds b h.ends

-- ---- the tables

pub entry_good : (i j x : ℕ) → good_entry i j x ≡ true → GoodEntry i j x
unfolding good_entry choose
entry_good i j x = go (eqb i j) refl
  where
    go : (t : Bool) → eqb i j ≡ t → choose t (eqb x 0) (leb x most_fare) ≡ true → GoodEntry i j x
    go true p e = let z = eqb-true _ _ e in record { diagonal = λ d. z; small = omega arith }
    go false p e = record { diagonal = λ d. absurd (eqb-false _ _ p d); small = leb-true _ _ e }

pub entry_holds : (i j x : ℕ) → GoodEntry i j x → good_entry i j x ≡ true
unfolding good_entry choose
entry_holds i j x h = go (eqb i j) refl
  where
    go : (t : Bool) → eqb i j ≡ t → choose t (eqb x 0) (leb x most_fare) ≡ true
    go true p = eq-eqb _ _ (h.diagonal (eqb-true _ _ p))
    go false p = le-leb _ _ h.small

-- entry (i, j) and row i of a table, judged
pub entry_judged_good : (place : ℕ → ℕ → ℕ) (t : Table) (i j : ℕ) → entry_check place t i j ≡ Ok tt → GoodEntry i j (fare_at t i j)
unfolding entry_check
entry_judged_good place t i j e = entry_good i j _ (demand_good _ _ _ e).0

pub entry_judged_holds : (place : ℕ → ℕ → ℕ) (t : Table) (i j : ℕ) → GoodEntry i j (fare_at t i j) → entry_check place t i j ≡ Ok tt
unfolding entry_check
entry_judged_holds place t i j g = demand_holds _ _ _ (entry_holds i j _ g)

pub row_good : (place : ℕ → ℕ → ℕ) (t : Table) (i : ℕ) → row_check place t i ≡ Ok tt → (j : ℕ) → j < t.stations → GoodEntry i j (fare_at t i j)
unfolding row_check
row_good place t i e j h = entry_judged_good place t i j (first_good (entry_check place t i) _ e j h)

pub row_holds : (place : ℕ → ℕ → ℕ) (t : Table) (i : ℕ) → ((j : ℕ) → j < t.stations → GoodEntry i j (fare_at t i j)) → row_check place t i ≡ Ok tt
unfolding row_check
row_holds place t i g = first_holds (entry_check place t i) _ (λ j h. entry_judged_holds place t i j (g j h))

pub table_good : (place : ℕ → ℕ → ℕ) (t : Table) → table_check place t ≡ Ok tt → GoodTable t
unfolding table_check
table_good place t e i j h k = row_good place t i (first_good (row_check place t) _ e i h) j k

pub table_holds : (place : ℕ → ℕ → ℕ) (t : Table) → GoodTable t → table_check place t ≡ Ok tt
unfolding table_check
table_holds place t g = first_holds (row_check place t) _ (λ i h. row_holds place t i (λ j k. g i j h k))

-- ---- the links

pub same_station_lem : (x y : Station) → same_station x y ≡ true → x ≡ y
unfolding same_station
same_station_lem x y e =
    let p = both_true _ _ e in
    let c : x.company ≡ y.company = eqb-true _ _ p.0 in
    let n : x.number ≡ y.number = eqb-true _ _ p.1 in
    ap₂ (λ (i j : ℕ). record { company = i; number = j }) c n

pub same_station_holds : (x y : Station) → x ≡ y → same_station x y ≡ true
unfolding same_station
same_station_holds x y e = both_holds _ _ (eq-eqb _ _ (ap (λ (s : Station). s.company) e)) (eq-eqb _ _ (ap (λ (s : Station). s.number) e))

pub other_station_lem : (x y : Station) → (same_station x y ≡ false) ↔ (x ≡ y → ⊥)
other_station_lem x y = (λ f e. true_not_false (sym (same_station_holds x y e) ∙ f), λ n. fails (λ t. n (same_station_lem x y t)))

pub same_link_lem : (x y : Link) → same_link x y ≡ true → x ≡ y
unfolding same_link
same_link_lem x y e =
    let p = both_true _ _ e in
    ap₂ (λ (s t : Station). record { one = s; other = t }) (same_station_lem _ _ p.0) (same_station_lem _ _ p.1)

pub same_link_holds : (x y : Link) → x ≡ y → same_link x y ≡ true
unfolding same_link
same_link_holds x y e =
    both_holds _ _ (same_station_holds _ _ (ap (λ (l : Link). l.one) e)) (same_station_holds _ _ (ap (λ (l : Link). l.other) e))

-- a test that holds exactly where the four numbers of two links are equal
pub links_alike : (x y : List ℕ) → length x ≡ link_numbers → length y ≡ link_numbers → (t : Bool) → IsTrue t ↔ (x ≡ y) → t ≡ same_link (link_in x 0) (link_in y 0)
unfolding link_in
links_alike x y m n t h = go t refl
  where
    numbers : link_in x 0 ≡ link_in y 0 → (i : ℕ) → i < 4 → get_or x i 0 ≡ get_or y i 0
    numbers e zero l = ap (λ (l : Link). l.one.company) e
    numbers e (suc zero) l = ap (λ (l : Link). l.one.number) e
    numbers e (suc (suc zero)) l = ap (λ (l : Link). l.other.company) e
    numbers e (suc (suc (suc zero))) l = ap (λ (l : Link). l.other.number) e
    numbers e (suc (suc (suc (suc i)))) l = absurd (omega arith)

    go : (s : Bool) → t ≡ s → s ≡ same_link (link_in x 0) (link_in y 0)
    go true e = sym (same_link_holds _ _ (ap (λ (s : List ℕ). link_in s 0) (h.0 e)))
    go false e = sym (fails (λ q. true_not_false (sym (h.1 (ext_get_or 0 x y (m ∙ sym n) (λ i l. numbers (same_link_lem _ _ q) i (omega arith)))) ∙ e)))

pub link_good : (N : Network) (l : Link) → good_link N l ≡ true → GoodLink N l
unfolding good_link
link_good N l e =
    let s1 = both_true _ _ e in
    let s2 = both_true _ _ s1.1 in
    let s3 = both_true _ _ s2.1 in
    record {
      ordered = ltb-true _ _ s1.0;
      company = ltb-true _ _ s2.0;
      one = ltb-true _ _ s3.0;
      other = ltb-true _ _ s3.1;
    }

pub link_holds : (N : Network) (l : Link) → GoodLink N l → good_link N l ≡ true
unfolding good_link
link_holds N l h =
    both_holds _ _ (lt-ltb _ _ h.ordered)
    (both_holds _ _ (lt-ltb _ _ h.company) (both_holds _ _ (lt-ltb _ _ h.one) (lt-ltb _ _ h.other)))

pub once_good : (N : Network) (k : ℕ) → repeated N k ≡ false → Once N k
unfolding repeated
once_good N k e j h q = true_not_false (sym (same_link_holds _ _ q) ∙ some_false (λ (j : ℕ). same_link (N.link j) (N.link k)) k e j h)

pub once_holds : (N : Network) (k : ℕ) → Once N k → repeated N k ≡ false
unfolding repeated
once_holds N k h = none_holds _ k (λ j l. fails (λ e. h j l (same_link_lem _ _ e)))

-- link k of the network, judged
pub link_judged_good : (N : Network) (k : ℕ) → link_check N k ≡ Ok tt → GoodLink N (N.link k) × Once N k
unfolding link_check
link_judged_good N k e =
    let s1 = demand_good _ _ _ e in
    let s2 = demand_good _ _ _ s1.1 in
    (link_good N _ s1.0, once_good N k (not-true _ s2.0))

pub link_judged_holds : (N : Network) (k : ℕ) → GoodLink N (N.link k) → Once N k → link_check N k ≡ Ok tt
unfolding link_check
link_judged_holds N k h o =
    demand_holds _ _ _ (link_holds N _ h) ∙ demand_holds _ _ _ (ap not (once_holds N k o))

-- ---- the rules

pub map_good : (map : List ℕ) (items : ℕ) → good_map map items ≡ true → GoodMap map items
unfolding good_map
map_good map items e =
    let p = both_true _ _ e in
    record {
      bytes = λ i h. ltb-true _ _ (all_true (λ (i : ℕ). ltb (get_or map i 0) 256) _ p.0 i h);
      beyond = λ i h l.
          ⊎_elim
          (λ t. absurd (true_not_false (sym t ∙ le-ltb _ _ h)))
          (λ n. not-true _ n)
          (either_true _ _ (all_true (λ (i : ℕ). either (ltb i items) (not (in_map map i))) _ p.1 i l));
    }

pub map_holds : (map : List ℕ) (items : ℕ) → GoodMap map items → good_map map items ≡ true
unfolding good_map either
map_holds map items h =
    both_holds _ _
    (all_holds _ _ (λ i l. lt-ltb _ _ (h.bytes i l)))
    (all_holds _ _ (λ i l. go i l (ltb i items) refl))
  where
    go : (i : ℕ) → i < 8 * length map → (t : Bool) → ltb i items ≡ t → either t (not (in_map map i)) ≡ true
    go i l true p = refl
    go i l false p = ap not (h.beyond i (ltb-false _ _ p) l)

-- a map with an item beyond its items is bad
pub map_stops : (map : List ℕ) (items i : ℕ) → i < 8 * length map → items ≤ i → in_map map i ≡ true → good_map map items ≡ false
map_stops map items i l h e = fails (λ g. true_not_false (sym e ∙ (map_good map items g).beyond i h l))

-- what the test of company byte i tells: of a ride of the run, and of one beyond it
ride_company : (N : Network) (r : Rule) (i : ℕ) → good_company N.companies r.rides r.companies i ≡ true → i < r.rides
    → (company_at r i < N.companies) × (either (eqb i 0) (not (eqb (company_at r (i - 1)) (company_at r i))) ≡ true)
unfolding good_company choose
ride_company N r i e h =
    let p = both_true _ _ (rw (lt-ltb i r.rides h) at e) in
    (ltb-true _ _ p.0, p.1)

rest_company : (N : Network) (r : Rule) (i : ℕ) → good_company N.companies r.rides r.companies i ≡ true → r.rides ≤ i → company_at r i ≡ no_company
unfolding good_company choose
rest_company N r i e h = eqb-true _ _ (rw (le-ltb i r.rides h) at e)

pub companies_exist : (N : Network) (r : Rule) → within least_run r.rides most_run ≡ true → all_below (good_company N.companies r.rides r.companies) most_run ≡ true
    → (i : ℕ) → i < r.rides → company_at r i < N.companies
companies_exist N r w e i h =
    let f = (within_true _ _ _ w).to in
    (ride_company N r i (all_true (good_company N.companies r.rides r.companies) most_run e i (omega arith)) h).0

pub first_company : (N : Network) (r : Rule) → within least_run r.rides most_run ≡ true → all_below (good_company N.companies r.rides r.companies) most_run ≡ true
    → company_at r 0 < N.companies
first_company N r w e =
    let f = (within_true _ _ _ w).from in
    companies_exist N r w e 0 (omega arith)

pub last_company : (N : Network) (r : Rule) → within least_run r.rides most_run ≡ true → all_below (good_company N.companies r.rides r.companies) most_run ≡ true
    → company_at r (r.rides - 1) < N.companies
last_company N r w e =
    let f = (within_true _ _ _ w).from in
    companies_exist N r w e (r.rides - 1) (omega arith)

neighbours_differ : (N : Network) (r : Rule) (i : ℕ) → good_company N.companies r.rides r.companies (i + 1) ≡ true → i + 1 < r.rides
    → company_at r i ≡ company_at r (i + 1) → ⊥
neighbours_differ N r i e h q =
    let back : i + 1 - 1 ≡ i = omega arith in
    let same : company_at r (i + 1 - 1) ≡ company_at r (i + 1) = ap (company_at r) back ∙ q in
    ⊎_elim
    (λ z. let never : i + 1 ≡ 0 = eqb-true _ _ z in omega arith)
    (λ n. eqb-false _ _ (not-true _ n) same)
    (either_true _ _ (ride_company N r (i + 1) e h).1)

pub rule_good : (N : Network) (r : Rule) → good_rule N r ≡ true → GoodRule N r
unfolding good_rule good_maps
rule_good N r e =
    let s1 = both_true _ _ e in
    let s2 = both_true _ _ s1.1 in
    let s3 = both_true _ _ s2.1 in
    let s4 = both_true _ _ s3.1 in
    let s5 = both_true _ _ s4.1 in
    let w = within_true _ _ _ s1.0 in
    let at = all_true (good_company N.companies r.rides r.companies) most_run s2.0 in
    record {
      rides = w;
      existing = companies_exist N r s1.0 s2.0;
      neighbours = λ i h. neighbours_differ N r i (at (i + 1) (omega arith)) h;
      rest = λ i h l. rest_company N r i (at i l) h;
      amount = within_true _ _ _ s3.0;
      boarding = map_good _ _ s4.0;
      alighting = map_good _ _ s5.0;
      permitted = map_good _ _ s5.1;
    }

companies_hold : (N : Network) (r : Rule) → GoodRule N r → (i : ℕ) → i < most_run → good_company N.companies r.rides r.companies i ≡ true
unfolding good_company choose either
companies_hold N r g i l = go (ltb i r.rides) refl
  where
    differs : (i : ℕ) → i < r.rides → either (eqb i 0) (not (eqb (company_at r (i - 1)) (company_at r i))) ≡ true
    differs zero h = refl
    differs (suc j) h =
        let here : suc j ≡ j + 1 = omega arith in
        let back : suc j - 1 ≡ j = omega arith in
        either_second (eqb (suc j) 0) _
        (ap not (ne_eqb _ _ (λ q. g.neighbours j (omega arith) (ap (company_at r) (sym back) ∙ q ∙ ap (company_at r) here))))

    go : (t : Bool) → ltb i r.rides ≡ t
        → choose t (both (ltb (company_at r i) N.companies) (either (eqb i 0) (not (eqb (company_at r (i - 1)) (company_at r i))))) (eqb (company_at r i) no_company)
        ≡ true
    go true p = let h = ltb-true i r.rides p in both_holds _ _ (lt-ltb _ _ (g.existing i h)) (differs i h)
    go false p = eq-eqb _ _ (g.rest i (ltb-false _ _ p) l)

pub rule_holds : (N : Network) (r : Rule) → GoodRule N r → good_rule N r ≡ true
unfolding good_rule good_maps
rule_holds N r g =
    both_holds _ _ (within_holds _ _ _ g.rides)
    (both_holds _ _ (all_holds (good_company N.companies r.rides r.companies) most_run (companies_hold N r g))
    (both_holds _ _ (within_holds _ _ _ g.amount)
    (both_holds _ _ (map_holds _ _ g.boarding)
    (both_holds _ _ (map_holds _ _ g.alighting) (map_holds _ _ g.permitted)))))

-- rule k of the network, judged
pub rule_judged_good : (N : Network) (k : ℕ) → rule_check N k ≡ Ok tt → GoodRule N (N.rule k)
unfolding rule_check
rule_judged_good N k e = rule_good N _ (demand_good _ _ _ e).0

pub rule_judged_holds : (N : Network) (k : ℕ) → GoodRule N (N.rule k) → rule_check N k ≡ Ok tt
unfolding rule_check
rule_judged_holds N k g = demand_holds _ _ _ (rule_holds N _ g)

-- ---- all of it

pub tables_good : (place : ℕ → ℕ → ℕ → ℕ) (F : Fares) → tables_check place F ≡ Ok tt → (c : ℕ) → c < length F.tables → GoodTable (table_at F c)
unfolding tables_check
tables_good place F e c h = table_good (place c) (table_at F c) (first_good (λ c. table_check (place c) (table_at F c)) _ e c h)

pub tables_holds : (place : ℕ → ℕ → ℕ → ℕ) (F : Fares) → ((c : ℕ) → c < length F.tables → GoodTable (table_at F c)) → tables_check place F ≡ Ok tt
unfolding tables_check
tables_holds place F g = first_holds (λ c. table_check (place c) (table_at F c)) _ (λ c h. table_holds (place c) (table_at F c) (g c h))

pub fares_good : (place : ℕ → ℕ → ℕ → ℕ) (F : Fares) → fares_check place F ≡ Ok tt → GoodFares F
unfolding fares_check
fares_good place F e =
    let s1 = then_good _ _ e in
    let s2 = then_good _ _ s1.1 in
    record {
      tables = tables_good place F s1.0;
      links = λ k h. link_judged_good (network_of F) k (first_good (link_check (network_of F)) _ s2.0 k h);
      rules = λ k h. rule_judged_good (network_of F) k (first_good (rule_check (network_of F)) _ s2.1 k h);
    }

pub fares_holds : (place : ℕ → ℕ → ℕ → ℕ) (F : Fares) → GoodFares F → fares_check place F ≡ Ok tt
unfolding fares_check
fares_holds place F g =
    then_next _ _ (tables_holds place F g.tables)
    ∙ then_next _ _ (first_holds (link_check (network_of F)) _ (λ k h. link_judged_holds (network_of F) k (g.links k h).0 (g.links k h).1))
    ∙ first_holds (rule_check (network_of F)) _ (λ k h. rule_judged_holds (network_of F) k (g.rules k h))

-- A book is refused exactly where it is not valid.
pub book_good : (b : List ℕ) → (book_check b ≡ Ok tt) ↔ ValidBook b
unfolding book_check
book_good b = (valid, good)
  where
    valid : book_check b ≡ Ok tt → ValidBook b
    valid e =
        let s1 = then_good _ _ e in
        let s2 = then_good _ _ s1.1 in
        record { laid_out = contents_good b (header_good b s1.0) s2.0; fares = fares_good (entry_offset b) (fares_of b) s2.1 }

    good : ValidBook b → book_check b ≡ Ok tt
    good v =
        then_next _ _ (header_holds b v.laid_out.header)
        ∙ then_next _ _ (contents_holds b v.laid_out)
        ∙ fares_holds (entry_offset b) (fares_of b) v.fares
