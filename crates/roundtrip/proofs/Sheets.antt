-- The sheet of the fares that a sheet says is that sheet, and the fares that the sheet of whole fares says are those fares.
use Prim.Native.Nat.{ℕ, zero, suc, ◌+◌, ◌*◌, ◌≤◌, ◌<◌}
use mathlib.Core.Path.{◌≡◌, refl, sym, ap, ap₂, ◌∙◌}
use mathlib.Core.List.{List, [], ◌∷◌, ◌++◌, append_assoc}
use native.Mathlib.Omega.{arith}
use lib.ListN.{length, get_or, drop, length-append}
use Rattle.outline.specs.declared.Link.{Link}
use Rattle.outline.specs.Tests.{in_order, part}
use Rattle.outline.specs.declared.Rule.{Rule}
use Rattle.outline.specs.Fares.{Table, Fares, table_at, link_at, rule_at, no_table, no_link, no_rule}
use Rattle.outline.specs.Sheet.{companies_in, links_in, rules_in, table_numbers, company_start, stations_in, table_in, link_start, link_in, rule_start, rule_in, fares_in, table_sheet, link_sheet, rule_sheet, counts_sheet, tables_sheet, links_sheet, rules_sheet, sheet_of}
use Rattle.outline.specs.SheetValid.{CompanyNumbers, SheetLaidOut}
use Rattle.laws.proofs.Reading.{part_more, part_one, RuleSized}
use Rattle.laws.proofs.Sheet.{companies_in_lem, links_in_lem, rules_in_lem, table_in_lem, link_in_lem, rule_in_lem, stations_in_lem, link_inside, rule_inside, rule_first_in, rule_maps_in}
use Rattle.filling.proofs.InOrder.{order_room, order_part, order_whole, order_length}
use Rattle.filling.proofs.Sizes.{table_sheet_length, link_sheet_length, rule_sheet_length}
use Rattle.filling.proofs.Whole.{Whole, sheet_whole, sheet_length, links_sheet_length, rules_sheet_length}
use Rattle.roundtrip.proofs.Pieces.{part_skip, part_first, tail_of, piece_at, number_at, part_whole, part_four, listed}

-- ---- one table, link and rule

table_again : (s : List ℕ) (at : ℕ) → at < length s → table_sheet (table_in s at) ≡ part s at (table_numbers (get_or s at 0))
unfolding table_sheet table_in
table_again s at h = sym (part_one s at (get_or s at 0 * get_or s at 0) h)

pub link_again : (s : List ℕ) (at : ℕ) → at + 4 ≤ length s → link_sheet (link_in s at) ≡ part s at 4
unfolding link_sheet link_in
link_again s at h =
    let e : at + 2 + 1 ≡ at + 3 = omega arith in
    rw e (sym (part_four s at h))

rule_again : (s : List ℕ) (at : ℕ) → at + 32 ≤ length s → rule_sheet (rule_in s at) ≡ part s at 32
unfolding rule_sheet rule_in
rule_again s at h =
    let six : at + 5 + 1 ≡ at + 6 = omega arith in
    sym
    (part_more s at 5 27
    ∙ ap₂ (λ (x y : List ℕ). x ++ y) (rule_first_in s at h)
    (part_one s (at + 5) 26 (omega arith)
    ∙ ap (λ (a : ℕ). get_or s (at + 5) 0 ∷ part s a 26) six
    ∙ ap (λ (y : List ℕ). get_or s (at + 5) 0 ∷ y) (rule_maps_in s at)))

-- what is read where a table's, a link's, a rule's numbers stand
table_back : (t : Table) (s : List ℕ) (at : ℕ) → length t.fares ≡ t.stations * t.stations → part s at (table_numbers t.stations) ≡ table_sheet t → table_in s at ≡ t
unfolding table_sheet table_in
table_back t s at square e =
    let tail = tail_of s (t.stations ∷ t.fares) at (table_numbers t.stations) e in
    let rest = drop (table_numbers t.stations) (drop at s) in
    let zero_more : at + 0 ≡ at = omega arith in
    let n : get_or s at 0 ≡ t.stations = ap (λ (i : ℕ). get_or s i 0) (sym zero_more) ∙ number_at s [] (t.fares ++ rest) t.stations at 0 tail refl in
    let fares : part s (at + 1) (t.stations * t.stations) ≡ t.fares = piece_at s (t.stations ∷ []) t.fares rest at 1 (t.stations * t.stations) tail refl square in
    rw (n, fares) refl

stations_back : (t : Table) (s : List ℕ) (at : ℕ) → table_in s at ≡ t → get_or s at 0 ≡ t.stations
unfolding table_in
stations_back t s at e = ap (λ (u : Table). u.stations) e

pub link_back : (l : Link) (s : List ℕ) (at : ℕ) → part s at 4 ≡ link_sheet l → link_in s at ≡ l
unfolding link_sheet link_in
link_back l s at e =
    let tail = tail_of s (link_sheet l) at 4 e in
    let rest = drop 4 (drop at s) in
    let zero_more : at + 0 ≡ at = omega arith in
    let three : at + 2 + 1 ≡ at + 3 = omega arith in
    let a : get_or s at 0 ≡ l.one.company = ap (λ (i : ℕ). get_or s i 0) (sym zero_more) ∙ number_at s [] (l.one.number ∷ l.other.company ∷ l.other.number ∷ rest) l.one.company at 0 tail refl in
    let b : get_or s (at + 1) 0 ≡ l.one.number = number_at s (l.one.company ∷ []) (l.other.company ∷ l.other.number ∷ rest) l.one.number at 1 tail refl in
    let c : get_or s (at + 2) 0 ≡ l.other.company = number_at s (l.one.company ∷ l.one.number ∷ []) (l.other.number ∷ rest) l.other.company at 2 tail refl in
    let d : get_or s (at + 2 + 1) 0 ≡ l.other.number = ap (λ (i : ℕ). get_or s i 0) three ∙ number_at s (l.one.company ∷ l.one.number ∷ l.other.company ∷ []) rest l.other.number at 3 tail refl in
    rw (a, b, c, d) refl

rule_back : (r : Rule) (s : List ℕ) (at : ℕ) → RuleSized r → part s at 32 ≡ rule_sheet r → rule_in s at ≡ r
unfolding rule_sheet rule_in
rule_back r s at sized e =
    let rest = drop 32 (drop at s) in
    let tail : drop at s ≡ (r.rides ∷ r.companies) ++ (r.amount ∷ (r.boarding ++ (r.alighting ++ (r.permitted ++ rest)))) = tail_of s _ at 32 e ∙ simp append_assoc in
    let first : List ℕ = r.rides ∷ r.companies in
    let zero_more : at + 0 ≡ at = omega arith in
    let rides : get_or s at 0 ≡ r.rides = ap (λ (i : ℕ). get_or s i 0) (sym zero_more) ∙ number_at s [] _ r.rides at 0 tail refl in
    let companies : part s (at + 1) 4 ≡ r.companies = piece_at s (r.rides ∷ []) r.companies _ at 1 4 tail refl sized.companies in
    let five : length first ≡ 5 = omega (arith, sized.companies) in
    let amount : get_or s (at + 5) 0 ≡ r.amount = number_at s first _ r.amount at 5 tail five in
    let six : length (first ++ (r.amount ∷ [])) ≡ 6 = simp length-append (omega arith) in
    let boarding : part s (at + 6) 5 ≡ r.boarding = piece_at s (first ++ (r.amount ∷ [])) r.boarding (r.alighting ++ (r.permitted ++ rest)) at 6 5 (tail ∙ sym (append_assoc first (r.amount ∷ []) _)) six sized.boarding in
    let eleven : length (first ++ (r.amount ∷ r.boarding)) ≡ 11 = simp length-append (omega (arith, sized.boarding)) in
    let alighting : part s (at + 11) 5 ≡ r.alighting = piece_at s (first ++ (r.amount ∷ r.boarding)) r.alighting (r.permitted ++ rest) at 11 5 (tail ∙ sym (append_assoc first (r.amount ∷ r.boarding) _)) eleven sized.alighting in
    let sixteen : length (first ++ (r.amount ∷ (r.boarding ++ r.alighting))) ≡ 16 = simp length-append (omega (arith, sized.boarding, sized.alighting)) in
    let permitted : part s (at + 16) 16 ≡ r.permitted = piece_at s (first ++ (r.amount ∷ (r.boarding ++ r.alighting))) r.permitted rest at 16 16 (tail ∙ simp append_assoc) sixteen sized.permitted in
    rw (rides, companies, amount, boarding, alighting, permitted) refl

-- ---- the sheet of what a sheet says

module _ (s : List ℕ) (laid : SheetLaidOut s) where
  -- the tables that the sheet says, as its numbers
  table : ℕ → List ℕ
  table c = table_sheet (table_at (fares_in s) c)

  start_at : (c : ℕ) → c ≤ companies_in s → company_start s c ≡ 3 + length (in_order table c)
  unfolding company_start in_order table
  start_at zero h = refl
  start_at (suc c) h =
      let known : c < companies_in s = omega arith in
      let whole = sheet_whole s laid in
      let long : length (table c) ≡ table_numbers (stations_in s c) = table_sheet_length (table_at (fares_in s) c) (whole.square c (rw (companies_in_lem s) known)) ∙ ap (λ (n : ℕ). table_numbers n) (stations_in_lem s c known) in
      omega (arith, start_at c (omega arith), length-append (in_order table c) (table c))

  tables_again : part s 3 (length (tables_sheet (fares_in s))) ≡ tables_sheet (fares_in s)
  unfolding tables_sheet table
  tables_again = order_whole table s 3 (length (fares_in s).tables) each
    where
      each : (c : ℕ) → c < length (fares_in s).tables → part s (3 + length (in_order table c)) (length (table c)) ≡ table c
      each c h =
          let known : c < companies_in s = rw (companies_in_lem s) at h in
          let inside = (laid.companies c known).inside in
          let here : table c ≡ part s (company_start s c) (table_numbers (stations_in s c)) = ap table_sheet (table_in_lem s c known) ∙ table_again s (company_start s c) (omega arith) in
          let long : length (table c) ≡ table_numbers (stations_in s c) = table_sheet_length (table_at (fares_in s) c) ((sheet_whole s laid).square c h) ∙ ap (λ (n : ℕ). table_numbers n) (stations_in_lem s c known) in
          ap₂ (part s) (sym (start_at c (omega arith))) long ∙ sym here

  links_start : company_start s (companies_in s) ≡ 3 + length (tables_sheet (fares_in s))
  unfolding tables_sheet table
  links_start = rw (companies_in_lem s) (start_at (companies_in s) (omega arith))

  links_again : part s (company_start s (companies_in s)) (length (links_sheet (fares_in s))) ≡ links_sheet (fares_in s)
  unfolding links_sheet
  links_again = order_whole link s (company_start s (companies_in s)) (length (fares_in s).links) each
    where
      link : ℕ → List ℕ
      link k = link_sheet (link_at (fares_in s) k)

      each : (k : ℕ) → k < length (fares_in s).links → part s (company_start s (companies_in s) + length (in_order link k)) (length (link k)) ≡ link k
      each k h =
          let known : k < links_in s = rw (links_in_lem s) at h in
          let some = order_length link 4 k (λ j l. link_sheet_length (link_at (fares_in s) j)) in
          ap₂ (λ (i n : ℕ). part s (company_start s (companies_in s) + i) n) some (link_sheet_length (link_at (fares_in s) k))
          ∙ sym (ap link_sheet (link_in_lem s k known) ∙ link_again s (link_start s k) (link_inside s laid k known))

  rules_again : part s (link_start s (links_in s)) (length (rules_sheet (fares_in s))) ≡ rules_sheet (fares_in s)
  unfolding rules_sheet
  rules_again = order_whole rule s (link_start s (links_in s)) (length (fares_in s).rules) each
    where
      rule : ℕ → List ℕ
      rule k = rule_sheet (rule_at (fares_in s) k)

      long : (k : ℕ) → k < length (fares_in s).rules → length (rule k) ≡ 32
      long k h = rule_sheet_length (rule_at (fares_in s) k) ((sheet_whole s laid).sized k h)

      each : (k : ℕ) → k < length (fares_in s).rules → part s (link_start s (links_in s) + length (in_order rule k)) (length (rule k)) ≡ rule k
      each k h =
          let known : k < rules_in s = rw (rules_in_lem s) at h in
          let some = order_length rule 32 k (λ j l. long j (omega arith)) in
          ap₂ (λ (i n : ℕ). part s (link_start s (links_in s) + i) n) some (long k h)
          ∙ sym (ap rule_sheet (rule_in_lem s k known) ∙ rule_again s (rule_start s k) (rule_inside s laid k known))

  counts_again : part s 0 3 ≡ counts_sheet (fares_in s)
  unfolding counts_sheet
  counts_again =
      let present = laid.counts.present in
      rw (companies_in_lem s, links_in_lem s, rules_in_lem s)
      (part_one s 0 2 (omega arith)
      ∙ ap (λ (x : List ℕ). get_or s 0 0 ∷ x) (part_one s 1 1 (omega arith) ∙ ap (λ (x : List ℕ). get_or s 1 0 ∷ x) (part_one s 2 0 (omega arith))))

  pub sheet_again : sheet_of (fares_in s) ≡ s
  unfolding sheet_of
  sheet_again =
      let F = fares_in s in
      let whole = sheet_whole s laid in
      let tables = length (tables_sheet F) in
      let links = length (links_sheet F) in
      let rules = length (rules_sheet F) in
      let starts = links_start in
      let links-long = links_sheet_length F whole in
      let links-many = links_in_lem s in
      let rules-long = rules_sheet_length F whole in
      let all : 3 + (tables + (links + rules)) ≡ length s = omega (arith, rules_in_lem s, laid.ends) in
      let third : 3 + tables + links ≡ link_start s (links_in s) = omega arith in
      sym
      (sym (part_whole s (3 + (tables + (links + rules))) all)
      ∙ part_more s 0 3 (tables + (links + rules))
      ∙ ap₂ (λ (x y : List ℕ). x ++ y) counts_again
      (part_more s 3 tables (links + rules)
      ∙ ap₂ (λ (x y : List ℕ). x ++ y) tables_again
      (part_more s (3 + tables) links rules
      ∙ ap₂ (λ (x y : List ℕ). x ++ y) (ap (λ (i : ℕ). part s i links) (sym starts) ∙ links_again) (ap (λ (i : ℕ). part s i rules) third ∙ rules_again))))

-- ---- what the sheet of whole fares says

module _ (F : Fares) (whole : Whole F) where
  numbers : ℕ → List ℕ
  numbers c = table_sheet (table_at F c)

  -- the sheet after its counts, after its tables and after its links
  counted : (i n : ℕ) → part (sheet_of F) (3 + i) n ≡ part (tables_sheet F ++ (links_sheet F ++ rules_sheet F)) i n
  unfolding sheet_of counts_sheet
  counted i n = part_skip (counts_sheet F) (tables_sheet F ++ (links_sheet F ++ rules_sheet F)) 3 i n refl

  table_place : (c : ℕ) → c < length F.tables → part (sheet_of F) (3 + length (in_order numbers c)) (table_numbers (table_at F c).stations) ≡ numbers c
  unfolding tables_sheet numbers
  table_place c h =
      let long = table_sheet_length (table_at F c) (whole.square c h) in
      ap (part (sheet_of F) (3 + length (in_order numbers c))) (sym long)
      ∙ counted (length (in_order numbers c)) (length (numbers c))
      ∙ part_first (tables_sheet F) (links_sheet F ++ rules_sheet F) (length (in_order numbers c)) (length (numbers c)) (order_room numbers (length F.tables) c h)
      ∙ order_part numbers (length F.tables) c h

  long_in : (c : ℕ) → c < length F.tables → length (numbers c) ≡ table_numbers (table_at F c).stations
  unfolding numbers
  long_in c h = table_sheet_length (table_at F c) (whole.square c h)

  room_in : (c : ℕ) → c < length F.tables → length (in_order numbers c) + length (numbers c) ≤ length (tables_sheet F)
  unfolding tables_sheet numbers
  room_in c h = order_room numbers (length F.tables) c h

  link_place : (k : ℕ) → k < length F.links → part (sheet_of F) (3 + (length (tables_sheet F) + 4 * k)) 4 ≡ link_sheet (link_at F k)
  unfolding links_sheet
  link_place k h =
      let some = order_length (λ (j : ℕ). link_sheet (link_at F j)) 4 k (λ j l. link_sheet_length (link_at F j)) in
      let room = order_room (λ (j : ℕ). link_sheet (link_at F j)) (length F.links) k h in
      let one = link_sheet_length (link_at F k) in
      counted (length (tables_sheet F) + 4 * k) 4
      ∙ part_skip (tables_sheet F) (links_sheet F ++ rules_sheet F) (length (tables_sheet F)) (4 * k) 4 refl
      ∙ part_first (links_sheet F) (rules_sheet F) (4 * k) 4 (omega arith)
      ∙ ap₂ (part (links_sheet F)) (sym some) (sym one)
      ∙ order_part (λ (j : ℕ). link_sheet (link_at F j)) (length F.links) k h

  rule_place : (k : ℕ) → k < length F.rules → part (sheet_of F) (3 + (length (tables_sheet F) + (4 * length F.links + 32 * k))) 32 ≡ rule_sheet (rule_at F k)
  unfolding rules_sheet
  rule_place k h =
      let some = order_length (λ (j : ℕ). rule_sheet (rule_at F j)) 32 k (λ j l. rule_sheet_length (rule_at F j) (whole.sized j (omega arith))) in
      let one = rule_sheet_length (rule_at F k) (whole.sized k h) in
      counted (length (tables_sheet F) + (4 * length F.links + 32 * k)) 32
      ∙ part_skip (tables_sheet F) (links_sheet F ++ rules_sheet F) (length (tables_sheet F)) (4 * length F.links + 32 * k) 32 refl
      ∙ part_skip (links_sheet F) (rules_sheet F) (4 * length F.links) (32 * k) 32 (links_sheet_length F whole)
      ∙ ap₂ (part (rules_sheet F)) (sym some) (sym one)
      ∙ order_part (λ (j : ℕ). rule_sheet (rule_at F j)) (length F.rules) k h

  start_back : (c : ℕ) → c ≤ length F.tables → company_start (sheet_of F) c ≡ 3 + length (in_order numbers c)
  unfolding company_start in_order numbers
  start_back zero h = refl
  start_back (suc c) h =
      let before = start_back c (omega arith) in
      let known : c < length F.tables = omega arith in
      let here = table_back (table_at F c) (sheet_of F) _ (whole.square c known) (table_place c known) in
      let n : get_or (sheet_of F) (company_start (sheet_of F) c) 0 ≡ (table_at F c).stations = ap (λ (i : ℕ). get_or (sheet_of F) i 0) before ∙ stations_back (table_at F c) (sheet_of F) (3 + length (in_order numbers c)) here in
      let long = table_sheet_length (table_at F c) (whole.square c known) in
      omega (arith, ap (λ (m : ℕ). table_numbers m) n, length-append (in_order numbers c) (numbers c))

  counts_back : (companies_in (sheet_of F) ≡ length F.tables) × (links_in (sheet_of F) ≡ length F.links) × (rules_in (sheet_of F) ≡ length F.rules)
  unfolding sheet_of counts_sheet
  counts_back = (refl, refl, refl)

  table_read : (c : ℕ) → c < length F.tables → table_in (sheet_of F) (company_start (sheet_of F) c) ≡ table_at F c
  unfolding numbers
  table_read c h = rw (start_back c (omega arith)) (table_back (table_at F c) (sheet_of F) (3 + length (in_order numbers c)) (whole.square c h) (table_place c h))

  links_place : company_start (sheet_of F) (companies_in (sheet_of F)) ≡ 3 + length (tables_sheet F)
  unfolding tables_sheet numbers
  links_place = rw counts_back.0 (start_back (length F.tables) (omega arith))

  link_read : (k : ℕ) → k < length F.links → link_in (sheet_of F) (link_start (sheet_of F) k) ≡ link_at F k
  link_read k h =
      let at : link_start (sheet_of F) k ≡ 3 + (length (tables_sheet F) + 4 * k) = omega (arith, links_place) in
      rw at (link_back (link_at F k) (sheet_of F) (3 + (length (tables_sheet F) + 4 * k)) (link_place k h))

  rules_place : (k : ℕ) → rule_start (sheet_of F) k ≡ 3 + (length (tables_sheet F) + (4 * length F.links + 32 * k))
  rules_place k = omega (arith, links_place, counts_back.1)

  rule_read : (k : ℕ) → k < length F.rules → rule_in (sheet_of F) (rule_start (sheet_of F) k) ≡ rule_at F k
  rule_read k h = rw (rules_place k) (rule_back (rule_at F k) (sheet_of F) (3 + (length (tables_sheet F) + (4 * length F.links + 32 * k))) (whole.sized k h) (rule_place k h))

  pub fares_back : fares_in (sheet_of F) ≡ F
  unfolding fares_in
  fares_back =
      let tables = listed (λ (c : ℕ). table_in (sheet_of F) (company_start (sheet_of F) c)) F.tables no_table (companies_in (sheet_of F)) counts_back.0 (λ c h. table_read c (rw counts_back.0 at h)) in
      let links = listed (λ (k : ℕ). link_in (sheet_of F) (link_start (sheet_of F) k)) F.links no_link (links_in (sheet_of F)) counts_back.1 (λ k h. link_read k (rw counts_back.1 at h)) in
      let rules = listed (λ (k : ℕ). rule_in (sheet_of F) (rule_start (sheet_of F) k)) F.rules no_rule (rules_in (sheet_of F)) counts_back.2 (λ k h. rule_read k (rw counts_back.2 at h)) in
      rw (tables, links, rules) refl

  pub sheet_laid_out : SheetLaidOut (sheet_of F)
  sheet_laid_out =
      let long = sheet_length F whole in
      record {
        counts = record {
          present = omega arith;
          companies = rw counts_back.0 whole.companies;
          links = rw counts_back.1 whole.links;
          rules = rw counts_back.2 whole.rules;
        };
        companies = λ c h. company c (rw counts_back.0 at h);
        ends = omega (arith, rules_place (rules_in (sheet_of F)), counts_back.2);
      }
    where
      company : (c : ℕ) → c < length F.tables → CompanyNumbers (sheet_of F) c
      company c h =
          let n : stations_in (sheet_of F) c ≡ (table_at F c).stations = stations_back (table_at F c) (sheet_of F) (company_start (sheet_of F) c) (table_read c h) in
          let room : length (in_order numbers c) + length (numbers c) ≤ length (tables_sheet F) = room_in c h in
          let one : length (numbers c) ≡ table_numbers (table_at F c).stations = long_in c h in
          record {
            stations = rw n (whole.stations c h);
            inside = omega (arith, start_back c (omega arith), ap (λ (m : ℕ). table_numbers m) n, sheet_length F whole);
          }
