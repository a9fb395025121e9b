-- Laws of reading a sheet: where its parts begin, what its network's fields are, and that a sheet is good exactly where it is valid.
use Prim.Native.Nat.{ℕ, zero, suc, ◌+◌, ◌*◌, ◌≤◌, ◌<◌}
use Rattle.std.proofs.Common.{Ok}
use mathlib.Core.Path.{◌≡◌, refl, ap, ◌∙◌}
use mathlib.Core.List.{List, ◌∷◌, ◌++◌}
use mathlib.Core.Logic.{◌↔◌}
use native.Mathlib.Numerals.{add-one}
use native.Mathlib.Omega.{arith}
use lib.ListN.{length, get_or}
use borrow.Author.Tests.{leb-true, eqb-true, le-leb, lt-ltb, eq-eqb}
use Rattle.outline.specs.Tests.{part}
use Rattle.outline.specs.Fares.{Table, fare_at, table_at, link_at, rule_at, no_table, no_link, no_rule}
use Rattle.outline.specs.Refusals.{first_below}
use Rattle.outline.specs.Network.{network_of}
use Rattle.outline.specs.Sheet.{counts_length, companies_in, links_in, rules_in, table_numbers, company_start, stations_in, table_in, fare_index, link_numbers, link_start, link_in, rule_numbers, rule_start, rule_in, fares_in, network_in}
use Rattle.outline.specs.SheetValid.{GoodCounts, CompanyNumbers, SheetLaidOut, ValidSheet}
use Rattle.outline.specs.SheetJudging.{counts_check, numbers_check, remainder_check, entry_index, sheet_check}
use Rattle.laws.proofs.Tests.{get_or-list_of, length-list_of, within_true, within_holds}
use Rattle.laws.proofs.Firsts.{demand_good, demand_holds, then_good, then_next, first_good, first_holds}
use Rattle.laws.proofs.Reading.{cell, part_at, part_length, part_one, part_more, RuleSized}
use Rattle.laws.proofs.Judging.{fares_good, fares_holds}

-- ---- where the parts begin

pub start_first : (s : List ℕ) → company_start s 0 ≡ counts_length
unfolding company_start
start_first s = refl

pub start_more : (s : List ℕ) (c : ℕ) → company_start s (c + 1) ≡ company_start s c + table_numbers (stations_in s c)
unfolding company_start
start_more s c = rw add-one refl

-- where so many companies' numbers are in the sheet, they end in it
pub start_inside : (s : List ℕ) (n : ℕ) → counts_length ≤ length s → ((c : ℕ) → c < n → CompanyNumbers s c) → company_start s n ≤ length s
unfolding company_start
start_inside s zero h k = h
start_inside s (suc n) h k = (k n (omega arith)).inside

-- ---- what the sheet says

pub companies_in_lem : (s : List ℕ) → length (fares_in s).tables ≡ companies_in s
unfolding fares_in
companies_in_lem s = length-list_of _ (companies_in s)

pub links_in_lem : (s : List ℕ) → length (fares_in s).links ≡ links_in s
unfolding fares_in
links_in_lem s = length-list_of _ (links_in s)

pub rules_in_lem : (s : List ℕ) → length (fares_in s).rules ≡ rules_in s
unfolding fares_in
rules_in_lem s = length-list_of _ (rules_in s)

pub table_in_lem : (s : List ℕ) (c : ℕ) → c < companies_in s → table_at (fares_in s) c ≡ table_in s (company_start s c)
unfolding fares_in
table_in_lem s c h = get_or-list_of (λ c. table_in s (company_start s c)) (companies_in s) c no_table h

pub link_in_lem : (s : List ℕ) (k : ℕ) → k < links_in s → link_at (fares_in s) k ≡ link_in s (link_start s k)
unfolding fares_in
link_in_lem s k h = get_or-list_of (λ k. link_in s (link_start s k)) (links_in s) k no_link h

pub rule_in_lem : (s : List ℕ) (k : ℕ) → k < rules_in s → rule_at (fares_in s) k ≡ rule_in s (rule_start s k)
unfolding fares_in
rule_in_lem s k h = get_or-list_of (λ k. rule_in s (rule_start s k)) (rules_in s) k no_rule h

pub stations_in_lem : (s : List ℕ) (c : ℕ) → c < companies_in s → (table_at (fares_in s) c).stations ≡ stations_in s c
unfolding table_in
stations_in_lem s c h = ap (λ (t : Table). t.stations) (table_in_lem s c h)

-- the network's fields
pub network_companies_in : (s : List ℕ) → (network_in s).companies ≡ companies_in s
unfolding network_in network_of
network_companies_in s = companies_in_lem s

pub network_links_in : (s : List ℕ) → (network_in s).links ≡ links_in s
unfolding network_in network_of
network_links_in s = links_in_lem s

pub network_rules_in : (s : List ℕ) → (network_in s).rules ≡ rules_in s
unfolding network_in network_of
network_rules_in s = rules_in_lem s

pub network_stations_in : (s : List ℕ) (c : ℕ) → c < companies_in s → (network_in s).stations c ≡ stations_in s c
unfolding network_in network_of
network_stations_in s c h = stations_in_lem s c h

pub network_link_in : (s : List ℕ) (k : ℕ) → k < links_in s → (network_in s).link k ≡ link_in s (link_start s k)
unfolding network_in network_of
network_link_in s k h = link_in_lem s k h

pub network_rule_in : (s : List ℕ) (k : ℕ) → k < rules_in s → (network_in s).rule k ≡ rule_in s (rule_start s k)
unfolding network_in network_of
network_rule_in s k h = rule_in_lem s k h

-- row i, column j of the table whose numbers begin at `at`
pub fare_in : (s : List ℕ) (at i j : ℕ) → i < get_or s at 0 → j < get_or s at 0 → fare_at (table_in s at) i j ≡ get_or s (at + fare_index (get_or s at 0) i j) 0
unfolding fare_at table_in
fare_in s at i j h k =
    let n : ℕ = get_or s at 0 in
    let e : at + 1 + (i * n + j) ≡ at + fare_index n i j = omega arith in
    part_at s (at + 1) (n * n) (i * n + j) (cell n i j h k) ∙ ap (λ (m : ℕ). get_or s m 0) e

-- as many fares as the stations ask for
pub square_in : (s : List ℕ) (at : ℕ) → at + table_numbers (get_or s at 0) ≤ length s → length (table_in s at).fares ≡ get_or s at 0 * get_or s at 0
unfolding table_in
square_in s at h = part_length s (at + 1) (get_or s at 0 * get_or s at 0) (omega arith)

-- ---- what a sheet that is laid out gives

module _ (s : List ℕ) (laid : SheetLaidOut s) where
  pub link_inside : (k : ℕ) → k < links_in s → link_start s k + link_numbers ≤ length s
  link_inside k h = omega (arith, laid.ends)

  pub rule_inside : (k : ℕ) → k < rules_in s → rule_start s k + rule_numbers ≤ length s
  rule_inside k h = omega (arith, laid.ends)

pub rule_sized_in : (s : List ℕ) (at : ℕ) → at + rule_numbers ≤ length s → RuleSized (rule_in s at)
unfolding rule_in
rule_sized_in s at h = record {
  companies = part_length s (at + 1) 4 (omega arith);
  boarding = part_length s (at + 6) 5 (omega arith);
  alighting = part_length s (at + 11) 5 (omega arith);
  permitted = part_length s (at + 16) 16 (omega arith);
}

-- a rule's numbers, one after the other
pub rule_first_in : (s : List ℕ) (at : ℕ) → at + rule_numbers ≤ length s → part s at 5 ≡ (rule_in s at).rides ∷ (rule_in s at).companies
unfolding rule_in
rule_first_in s at h = part_one s at 4 (omega arith)

pub rule_maps_in : (s : List ℕ) (at : ℕ)
    → part s (at + 6) 26 ≡ (rule_in s at).boarding ++ ((rule_in s at).alighting ++ (rule_in s at).permitted)
unfolding rule_in
rule_maps_in s at =
    let five : at + 6 + 5 ≡ at + 11 = omega arith in
    let ten : at + 11 + 5 ≡ at + 16 = omega arith in
    part_more s (at + 6) 5 21
    ∙ ap (λ (a : ℕ). part s (at + 6) 5 ++ part s a 21) five
    ∙ ap (λ (x : List ℕ). part s (at + 6) 5 ++ x) (part_more s (at + 11) 5 16)
    ∙ ap (λ (a : ℕ). part s (at + 6) 5 ++ (part s (at + 11) 5 ++ part s a 16)) ten

-- ---- what is refused and what is valid

pub counts_good : (s : List ℕ) → counts_check s ≡ Ok tt → GoodCounts s
unfolding counts_check
counts_good s e =
    let s1 = demand_good _ _ _ e in
    let s2 = demand_good _ _ _ s1.1 in
    let s3 = demand_good _ _ _ s2.1 in
    let s4 = demand_good _ _ _ s3.1 in
    record {
      present = leb-true _ _ s1.0;
      companies = within_true _ _ _ s2.0;
      links = leb-true _ _ s3.0;
      rules = leb-true _ _ s4.0;
    }

pub counts_holds : (s : List ℕ) → GoodCounts s → counts_check s ≡ Ok tt
unfolding counts_check
counts_holds s h =
    demand_holds _ _ _ (le-leb _ _ h.present)
    ∙ demand_holds _ _ _ (within_holds _ _ _ h.companies)
    ∙ demand_holds _ _ _ (le-leb _ _ h.links)
    ∙ demand_holds _ _ _ (le-leb _ _ h.rules)

pub numbers_good : (s : List ℕ) (c : ℕ) → numbers_check s c ≡ Ok tt → CompanyNumbers s c
unfolding numbers_check
numbers_good s c e =
    let s1 = demand_good _ _ _ e in
    let s2 = demand_good _ _ _ s1.1 in
    let s3 = demand_good _ _ _ s2.1 in
    record { stations = within_true _ _ _ s2.0; inside = leb-true _ _ s3.0 }

pub numbers_holds : (s : List ℕ) (c : ℕ) → CompanyNumbers s c → numbers_check s c ≡ Ok tt
unfolding numbers_check
numbers_holds s c h =
    let i = h.inside in
    let starts : company_start s c < length s = omega arith in
    demand_holds _ _ _ (lt-ltb _ _ starts)
    ∙ demand_holds _ _ _ (within_holds _ _ _ h.stations)
    ∙ demand_holds _ _ _ (le-leb _ _ i)

pub companies_good : (s : List ℕ) (n : ℕ) → first_below (numbers_check s) n ≡ Ok tt → (c : ℕ) → c < n → CompanyNumbers s c
companies_good s n e c h = numbers_good s c (first_good (numbers_check s) n e c h)

pub laid_good : (s : List ℕ) → GoodCounts s → ((c : ℕ) → c < companies_in s → CompanyNumbers s c) → remainder_check s ≡ Ok tt → SheetLaidOut s
unfolding remainder_check
laid_good s counts companies e = record { counts = counts; companies = companies; ends = eqb-true _ _ (demand_good _ _ _ e).0 }

pub remainder_holds : (s : List ℕ) → SheetLaidOut s → remainder_check s ≡ Ok tt
unfolding remainder_check
remainder_holds s h = demand_holds _ _ _ (eq-eqb _ _ h.ends)

-- A sheet is refused exactly where it is not valid.
pub sheet_good : (s : List ℕ) → (sheet_check s ≡ Ok tt) ↔ ValidSheet s
unfolding sheet_check
sheet_good s = (valid, good)
  where
    valid : sheet_check s ≡ Ok tt → ValidSheet s
    valid e =
        let s1 = then_good _ _ e in
        let s2 = then_good _ _ s1.1 in
        let s3 = then_good _ _ s2.1 in
        record {
          laid_out = laid_good s (counts_good s s1.0) (companies_good s _ s2.0) s3.0;
          fares = fares_good (entry_index s) (fares_in s) s3.1;
        }

    good : ValidSheet s → sheet_check s ≡ Ok tt
    good v =
        then_next _ _ (counts_holds s v.laid_out.counts)
        ∙ then_next _ _ (first_holds (numbers_check s) _ (λ c h. numbers_holds s c (v.laid_out.companies c h)))
        ∙ then_next _ _ (remainder_holds s v.laid_out)
        ∙ fares_holds (entry_index s) (fares_in s) v.fares
