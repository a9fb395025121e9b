-- Laws of reading a book: where a byte of a body stands in the book, what a table's entry is, and what the network's fields are.
use Prim.Native.Nat.{ℕ, zero, suc, ◌+◌, ◌*◌, ◌-◌, ◌≤◌, ◌<◌}
use mathlib.Core.Path.{◌≡◌, refl, sym, ap, ap₂, ◌∙◌}
use mathlib.Core.List.{List, [], ◌∷◌, ◌++◌}
use native.Mathlib.Nat.{not-suc-le-zero, mul-le-mul, mul-le-mul_right, suc-mul}
use native.Mathlib.Numerals.{add-one}
use native.Mathlib.Omega.{arith}
use lib.ListN.{length, get_or, take, drop, length-take, length-drop}
use lib.Seq.{get_or-drop, get_or-take, take-add, drop-drop, drop-cons}
use Rattle.outline.specs.Tests.{part}
use Rattle.outline.specs.declared.Rule.{Rule}
use Rattle.outline.specs.Fares.{Table, fare_at, table_at, no_table, no_link, no_rule}
use Rattle.outline.specs.Network.{network_of, entry_of}
use Rattle.outline.specs.Book.{word_at, company_count, link_count, rule_count, offset_of, length_of, links_entry, rules_entry, first_body, end_before, body_of, company_length, station_count, words, table_of, entry_place, link_length, link_of, rule_length, rule_of, fares_of, network}
use Rattle.outline.specs.Valid.{LaidOut}
use Rattle.outline.specs.Judging.{table_check, entry_offset}
use Rattle.laws.proofs.Tests.{get_or-list_of, length-list_of}

-- ---- parts and bodies

pub part_at : (s : List ℕ) (from n i : ℕ) → i < n → get_or (part s from n) i 0 ≡ get_or s (from + i) 0
part_at s from n i h = get_or-take n (drop from s) i 0 h ∙ get_or-drop from s i 0

pub part_length : (s : List ℕ) (from n : ℕ) → from + n ≤ length s → length (part s from n) ≡ n
part_length s from n h = simp (length-take, length-drop) (omega arith)

-- a part is its first numbers and those after them
pub part_more : (s : List ℕ) (from m n : ℕ) → part s from (m + n) ≡ part s from m ++ part s (from + m) n
part_more s from m n = take-add m n (drop from s) ∙ ap (λ (x : List ℕ). part s from m ++ take n x) (drop-drop m from s)

pub part_one : (s : List ℕ) (from n : ℕ) → from < length s → part s from (1 + n) ≡ get_or s from 0 ∷ part s (from + 1) n
part_one s from n h =
    let e : 1 + n ≡ suc n = omega arith in
    ap₂ take e (drop-cons s from 0 h) ∙ ap (λ (m : ℕ). get_or s from 0 ∷ part s m n) (sym (add-one from))

pub body_at : (b : List ℕ) (e i : ℕ) → i < length_of b e → get_or (body_of b e) i 0 ≡ get_or b (offset_of b e + i) 0
unfolding body_of
body_at b e i h = part_at b (offset_of b e) (length_of b e) i h

pub body_length : (b : List ℕ) (e : ℕ) → offset_of b e + length_of b e ≤ length b → length (body_of b e) ≡ length_of b e
unfolding body_of
body_length b e h = part_length b (offset_of b e) (length_of b e) h

-- the number of stations stands where the body begins
pub stations_at : (b : List ℕ) (e : ℕ) → 0 < length_of b e → station_count (body_of b e) ≡ get_or b (offset_of b e) 0
stations_at b e h =
    let z : offset_of b e + 0 ≡ offset_of b e = omega arith in
    body_at b e 0 h ∙ ap (λ (i : ℕ). get_or b i 0) z

-- ---- words

pub get_d_words : (b : List ℕ) (i : ℕ) → 2 * i + 1 < length b → get_or (words b) i 0 ≡ word_at b (2 * i)
unfolding words word_at
get_d_words [] i h = absurd (not-suc-le-zero h)
get_d_words (x ∷ []) i h = absurd (omega arith)
get_d_words (x ∷ y ∷ t) zero h = refl
get_d_words (x ∷ y ∷ t) (suc i) h =
    let e : 2 * suc i + 1 ≡ suc (suc (2 * i + 1)) = omega arith in
    let f : 2 * suc i ≡ suc (suc (2 * i)) = omega arith in
    rw (e, f) (get_d_words t i (omega arith))

pub length-words : (b : List ℕ) (n : ℕ) → length b ≡ 2 * n → length (words b) ≡ n
unfolding words
length-words [] n h = omega arith
length-words (x ∷ []) n h = absurd (omega arith)
length-words (x ∷ y ∷ t) zero h = absurd (omega arith)
length-words (x ∷ y ∷ t) (suc n) h = ap suc (length-words t n (omega arith))

pub word_drop : (b : List ℕ) (from at : ℕ) → word_at (drop from b) at ≡ word_at b (from + at)
unfolding word_at
word_drop b from at =
    let e : from + (at + 1) ≡ from + at + 1 = omega arith in
    rw (get_or-drop from b at 0, get_or-drop from b (at + 1) 0, e)

-- ---- a company's table

-- row i, column j is one of the n × n
pub cell : (n i j : ℕ) → i < n → j < n → i * n + j < n * n
cell n i j h k =
    let row : suc i * n ≤ n * n = mul-le-mul_right n h in
    let one : suc i * n ≡ i * n + n = suc-mul i n in
    omega arith

pub fares_length : (body : List ℕ) → length body ≡ company_length (station_count body) → length (table_of body).fares ≡ station_count body * station_count body
unfolding table_of
fares_length body l = length-words (drop 1 body) (station_count body * station_count body) (omega (arith, length-drop 1 body))

-- entry i of a table, counted row by row
pub entry_at : (body : List ℕ) (i : ℕ) → length body ≡ company_length (station_count body) → i < station_count body * station_count body
    → get_or (table_of body).fares i 0 ≡ word_at body (1 + 2 * i)
unfolding table_of
entry_at body i l h =
    let w = get_d_words (drop 1 body) i (omega (arith, length-drop 1 body)) in
    w ∙ word_drop body 1 (2 * i)

pub fare_at_lem : (body : List ℕ) (i j : ℕ) → length body ≡ company_length (station_count body) → i < station_count body → j < station_count body
    → fare_at (table_of body) i j ≡ word_at body (entry_place (station_count body) i j)
unfolding fare_at table_of
fare_at_lem body i j l h k = entry_at body (i * station_count body + j) l (cell (station_count body) i j h k)

-- ---- the network's fields

pub network_companies : (b : List ℕ) → (network b).companies ≡ company_count b
unfolding network network_of fares_of
network_companies b = length-list_of _ (company_count b)

pub network_links : (b : List ℕ) → (network b).links ≡ link_count b
unfolding network network_of fares_of
network_links b = length-list_of _ (link_count b)

pub network_rules : (b : List ℕ) → (network b).rules ≡ rule_count b
unfolding network network_of fares_of
network_rules b = length-list_of _ (rule_count b)

pub network_stations : (b : List ℕ) (c : ℕ) → c < company_count b → (network b).stations c ≡ station_count (body_of b c)
unfolding network network_of fares_of table_of
network_stations b c h = ap (λ (t : Table). t.stations) (get_or-list_of (λ c. table_of (body_of b c)) (company_count b) c no_table h)

pub network_entry : (b : List ℕ) (c i j : ℕ) → c < company_count b → (network b).entry c i j ≡ entry_of (fare_at (table_of (body_of b c)) i j)
unfolding network network_of fares_of
network_entry b c i j h = ap (λ (t : Table). entry_of (fare_at t i j)) (get_or-list_of (λ c. table_of (body_of b c)) (company_count b) c no_table h)

pub network_link : (b : List ℕ) (k : ℕ) → k < link_count b → (network b).link k ≡ link_of (body_of b (links_entry b)) k
unfolding network network_of fares_of
network_link b k h = get_or-list_of (link_of (body_of b (links_entry b))) (link_count b) k no_link h

pub network_rule : (b : List ℕ) (k : ℕ) → k < rule_count b → (network b).rule k ≡ rule_of (body_of b (rules_entry b)) k
unfolding network network_of fares_of
network_rule b k h = get_or-list_of (rule_of (body_of b (rules_entry b))) (rule_count b) k no_rule h

-- ---- products of small numbers

pub small_product : (k : ℕ) {m n : ℕ} → m ≤ k → n ≤ k → m * n ≤ k * k
small_product k h l = mul-le-mul h l

-- ---- parts that are lent

-- what is lent from a to a + n is the part of n from a on
pub lent_part : (s : List ℕ) (a n : ℕ) {a' n' : ℕ} → a ≡ a' → n ≡ n' → take (a + n - a) (drop a s) ≡ part s a' n'
lent_part s a n p q =
    let e : a + n - a ≡ n = omega arith in
    rw (e, p, q)

-- ---- the end of the part before

pub end_first : (b : List ℕ) (e : ℕ) → e ≡ 0 → end_before b e ≡ first_body b
unfolding end_before
end_first b e p = rw p

pub end_after : (b : List ℕ) (e : ℕ) → (e ≡ 0 → ⊥) → end_before b e ≡ offset_of b (e - 1) + length_of b (e - 1)
unfolding end_before
end_after b zero p = absurd (p refl)
end_after b (suc e) p =
    let q : suc e - 1 ≡ e = omega arith in
    rw q

-- ---- what a book that is laid out gives the lookups

module _ (b : List ℕ) where
  pub known_company : (c : ℕ) → c < (network b).companies → c < company_count b
  known_company c h = rw (network_companies b) at h

  -- entry e of the contents is in the book, and its body too
  pub record InBook (e : ℕ) : Type 0 where
    pub listed : 4 + 4 * e + 4 ≤ length b
    pub inside : offset_of b e + length_of b e ≤ length b

  pub company_in : LaidOut b → (c : ℕ) → c < company_count b → InBook c
  company_in w c h = record { listed = omega (arith, w.header.contents); inside = (w.companies c h).body.inside }

  pub links_in_lem : LaidOut b → InBook (links_entry b)
  links_in_lem w = record { listed = omega (arith, w.header.contents); inside = w.links.body.inside }

  pub rules_in_lem : LaidOut b → InBook (rules_entry b)
  rules_in_lem w = record { listed = omega (arith, w.header.contents); inside = w.rules.body.inside }

  pub company_long : LaidOut b → (c : ℕ) → c < company_count b → length (body_of b c) ≡ company_length (station_count (body_of b c))
  company_long w c h = body_length b c (w.companies c h).body.inside ∙ (w.companies c h).long

  pub company_starts : LaidOut b → (c : ℕ) → c < company_count b → (offset_of b c < length b) × (0 < length_of b c)
  company_starts w c h =
      let l : length_of b c ≡ company_length (station_count (body_of b c)) = (w.companies c h).long in
      let i : offset_of b c + length_of b c ≤ length b = (w.companies c h).body.inside in
      (omega arith, omega arith)

  pub link_fits : LaidOut b → (k : ℕ) → k < (network b).links → link_length * k + 4 ≤ length (body_of b (links_entry b))
  link_fits w k h =
      let l : length (body_of b (links_entry b)) ≡ link_length * link_count b = body_length b (links_entry b) w.links.body.inside ∙ w.links.long in
      omega (arith, network_links b)

  pub rule_fits : LaidOut b → (k : ℕ) → k < (network b).rules → rule_length * k + rule_length ≤ length (body_of b (rules_entry b))
  rule_fits w k h =
      let l : length (body_of b (rules_entry b)) ≡ rule_length * rule_count b = body_length b (rules_entry b) w.rules.body.inside ∙ w.rules.long in
      omega (arith, network_rules b)

  -- what is read of rule k of the rules' body is read of the network's rule k
  pub rule_read {ℓ} : {A : Type ℓ} (f : Rule → A) (body : List ℕ) (k : ℕ) → body ≡ body_of b (rules_entry b) → k < (network b).rules
      → f (rule_of body k) ≡ f ((network b).rule k)
  rule_read f body k e h = ap (λ (s : List ℕ). f (rule_of s k)) e ∙ sym (ap f (network_rule b k (rw (network_rules b) at h)))

  pub link_read : (body : List ℕ) (k : ℕ) → body ≡ body_of b (links_entry b) → k < (network b).links → link_of body k ≡ (network b).link k
  link_read body k e h = ap (λ (s : List ℕ). link_of s k) e ∙ sym (network_link b k (rw (network_links b) at h))

-- ---- the parts of a rule

pub record RuleSized (r : Rule) : Type 0 where
  pub companies : length r.companies ≡ 4
  pub boarding : length r.boarding ≡ 5
  pub alighting : length r.alighting ≡ 5
  pub permitted : length r.permitted ≡ 16

pub rule_of_sized : (body : List ℕ) (k : ℕ) → rule_length * k + rule_length ≤ length body → RuleSized (rule_of body k)
unfolding rule_of
rule_of_sized body k h = record {
  companies = part_length body (rule_length * k + 1) 4 (omega arith);
  boarding = part_length body (rule_length * k + 7) 5 (omega arith);
  alighting = part_length body (rule_length * k + 12) 5 (omega arith);
  permitted = part_length body (rule_length * k + 17) 16 (omega arith);
}

pub rule_sized : (b : List ℕ) → LaidOut b → (k : ℕ) → k < (network b).rules → RuleSized ((network b).rule k)
rule_sized b w k h = rw (network_rule b k (rw (network_rules b) at h)) (rule_of_sized _ k (rule_fits b w k h))

-- what is judged of the body of company c is judged of the book's table c
pub table_read : (b body : List ℕ) (c start : ℕ) → c < company_count b → body ≡ body_of b c → start ≡ offset_of b c
    → table_check (λ (i j : ℕ). start + entry_place (station_count body) i j) (table_of body) ≡ table_check (entry_offset b c) (table_at (fares_of b) c)
unfolding fares_of entry_offset
table_read b body c start h e s = rw (e, s, get_or-list_of (λ (c : ℕ). table_of (body_of b c)) (company_count b) c no_table h)

pub tables_count : (b : List ℕ) → length (fares_of b).tables ≡ company_count b
unfolding fares_of
tables_count b = length-list_of _ (company_count b)

pub known_table : (b : List ℕ) (c : ℕ) → c < length (fares_of b).tables → c < company_count b
known_table b c h = rw (tables_count b) at h

pub table_of_company : (b : List ℕ) (c : ℕ) → c < length (fares_of b).tables → table_at (fares_of b) c ≡ table_of (body_of b c)
unfolding fares_of
table_of_company b c h = get_or-list_of (λ (c : ℕ). table_of (body_of b c)) (company_count b) c no_table (known_table b c h)

-- ---- small numbers of a book that is laid out

pub stations_few : (b : List ℕ) → LaidOut b → (c : ℕ) → c < (network b).companies → (network b).stations c ≤ 40
stations_few b w c h =
    let k = known_company b c h in
    rw (network_stations b c k) (w.companies c k).stations.to

pub stations_some : (b : List ℕ) → LaidOut b → (c : ℕ) → c < (network b).companies → 2 ≤ (network b).stations c
stations_some b w c h =
    let k = known_company b c h in
    rw (network_stations b c k) (w.companies c k).stations.from

pub companies_few : (b : List ℕ) → LaidOut b → (network b).companies ≤ 16
companies_few b w = rw (network_companies b) w.header.companies.to

pub companies_some : (b : List ℕ) → LaidOut b → 1 ≤ (network b).companies
companies_some b w = rw (network_companies b) w.header.companies.from

pub links_few : (b : List ℕ) → LaidOut b → (network b).links ≤ 128
links_few b w = rw (network_links b) w.header.links

-- ---- a rule's bytes, one after the other

pub rule_first : (body : List ℕ) (k : ℕ) → rule_length * k + rule_length ≤ length body
    → part body (rule_length * k) 5 ≡ (rule_of body k).rides ∷ (rule_of body k).companies
unfolding rule_of
rule_first body k h = part_one body (rule_length * k) 4 (omega arith)

pub rule_maps : (body : List ℕ) (k : ℕ)
    → part body (rule_length * k + 7) 26 ≡ (rule_of body k).boarding ++ ((rule_of body k).alighting ++ (rule_of body k).permitted)
unfolding rule_of
rule_maps body k =
    let five : rule_length * k + 7 + 5 ≡ rule_length * k + 12 = omega arith in
    let ten : rule_length * k + 12 + 5 ≡ rule_length * k + 17 = omega arith in
    part_more body (rule_length * k + 7) 5 21
    ∙ ap (λ (a : ℕ). part body (rule_length * k + 7) 5 ++ part body a 21) five
    ∙ ap (λ (x : List ℕ). part body (rule_length * k + 7) 5 ++ x) (part_more body (rule_length * k + 12) 5 16)
    ∙ ap (λ (a : ℕ). part body (rule_length * k + 7) 5 ++ (part body (rule_length * k + 12) 5 ++ part body a 16)) ten
