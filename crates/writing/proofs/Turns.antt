-- What a laid-out sheet tells the writer: how long the parts of its book are, and what a turn of a loop over its companies meets.
use Prim.Native.Nat.{ℕ, ◌+◌, ◌*◌, ◌≤◌, ◌<◌}
use mathlib.Core.Path.{◌≡◌, sym, ap, ◌∙◌}
use mathlib.Core.List.{List, ◌++◌, append_assoc}
use native.Mathlib.Omega.{arith}
use lib.ListN.{length, get_or}
use Rattle.outline.specs.Numbers.{most_stations}
use Rattle.outline.specs.Tests.{in_order}
use Rattle.outline.specs.Fares.{link_at, rule_at}
use Rattle.outline.specs.Book.{company_length}
use Rattle.outline.specs.Sheet.{companies_in, links_in, rules_in, table_numbers, company_start, stations_in, table_in, link_start, link_in, rule_start, rule_in, fares_in}
use Rattle.outline.specs.SheetValid.{SheetLaidOut}
use Rattle.outline.specs.Writing.{table_bytes, link_bytes, rule_bytes, links_bytes, rules_bytes, body_in, header_bytes, entry_bytes, book_of}
use Rattle.laws.proofs.Sheet.{start_more, companies_in_lem, links_in_lem, rules_in_lem, table_in_lem, link_in_lem, rule_in_lem, stations_in_lem}
use Rattle.filling.proofs.InOrder.{order_more, order_room, order_same}
use Rattle.filling.proofs.Whole.{sheet_whole, body_company, body_links, body_rules, company_bytes_length, links_bytes_length, rules_bytes_length, bodies_most, book_length, contents_length}

-- ---- the parts of the book

pub record Parts (s : List ℕ) : Type 0 where
  pub companies : length (in_order (body_in (fares_in s)) (companies_in s)) ≤ 51216
  pub links : length (body_in (fares_in s) (companies_in s)) ≡ 4 * links_in s
  pub rules : length (body_in (fares_in s) (companies_in s + 1)) ≡ 33 * rules_in s
  pub contents : (n : ℕ) → length (in_order (entry_bytes (fares_in s)) n) ≡ 4 * n
  pub book : length (book_of (fares_in s)) ≡ 4 + 4 * (companies_in s + 2) + length (in_order (body_in (fares_in s)) (companies_in s)) + 4 * links_in s + 33 * rules_in s
  pub few : companies_in s ≤ 16
  pub few_links : links_in s ≤ 128
  pub few_rules : rules_in s ≤ 32

pub parts : (s : List ℕ) → SheetLaidOut s → Parts s
parts s laid =
    let F = fares_in s in
    let whole = sheet_whole s laid in
    let few = laid.counts.companies.to in
    let most = bodies_most F whole (length F.tables) (omega arith) in
    let all : length (in_order (body_in F) (length F.tables)) ≤ 51216 = omega (arith, companies_in_lem s) in
    record {
      companies = rw (companies_in_lem s) at all;
      links = rw (companies_in_lem s, links_in_lem s) at (links_bytes_length F whole);
      rules = rw (companies_in_lem s, rules_in_lem s) at (rules_bytes_length F whole);
      contents = contents_length F whole;
      book = rw (companies_in_lem s, links_in_lem s, rules_in_lem s) at (book_length F whole);
      few = few;
      few_links = laid.counts.links;
      few_rules = laid.counts.rules;
    }

-- what the parts tell, each alone
pub companies_few : (s : List ℕ) → SheetLaidOut s → length (in_order (body_in (fares_in s)) (companies_in s)) ≤ 51216
companies_few s laid = (parts s laid).companies

pub links_long : (s : List ℕ) → SheetLaidOut s → length (body_in (fares_in s) (companies_in s)) ≡ 4 * links_in s
links_long s laid = (parts s laid).links

pub rules_long : (s : List ℕ) → SheetLaidOut s → length (body_in (fares_in s) (companies_in s + 1)) ≡ 33 * rules_in s
rules_long s laid = (parts s laid).rules

pub book_long : (s : List ℕ) → SheetLaidOut s → length (book_of (fares_in s)) ≡ 4 + 4 * (companies_in s + 2) + length (in_order (body_in (fares_in s)) (companies_in s)) + 4 * links_in s + 33 * rules_in s
book_long s laid = (parts s laid).book

-- ---- a turn of a loop over the companies

pub record Turn (s : List ℕ) (c at : ℕ) : Type 0 where
  pub few : get_or s at 0 ≤ most_stations
  pub inside : at + table_numbers (get_or s at 0) ≤ length s
  pub next : at + table_numbers (get_or s at 0) ≡ company_start s (c + 1)
  pub body : body_in (fares_in s) c ≡ table_bytes (table_in s at)
  pub long : length (body_in (fares_in s) c) ≡ company_length (get_or s at 0)
  pub room : length (in_order (body_in (fares_in s)) c) + length (body_in (fares_in s) c) ≤ length (in_order (body_in (fares_in s)) (companies_in s))
  pub most : length (in_order (body_in (fares_in s)) (companies_in s)) ≤ 51216

pub turn : (s : List ℕ) → SheetLaidOut s → (c at : ℕ) → c < companies_in s → at ≡ company_start s c → Turn s c at
turn s laid c at h e =
    let F = fares_in s in
    let whole = sheet_whole s laid in
    let known : c < length F.tables = omega (arith, companies_in_lem s) in
    let n : get_or s at 0 ≡ stations_in s c = ap (λ (i : ℕ). get_or s i 0) e in
    record {
      few = rw e (laid.companies c h).stations.to;
      inside = rw e (laid.companies c h).inside;
      next = rw e (sym (start_more s c));
      body = body_company F whole c known ∙ ap table_bytes (table_in_lem s c h) ∙ ap (λ (i : ℕ). table_bytes (table_in s i)) (sym e);
      long = company_bytes_length F whole c known ∙ ap (λ (m : ℕ). company_length m) (stations_in_lem s c h ∙ sym n);
      room = order_room (body_in F) (companies_in s) c h;
      most = (parts s laid).companies;
    }

-- ---- the bodies of the links and of the rules

pub links_body : (s : List ℕ) → SheetLaidOut s → body_in (fares_in s) (companies_in s) ≡ in_order (λ (k : ℕ). link_bytes (link_in s (link_start s k))) (links_in s)
unfolding links_bytes
links_body s laid =
    rw (companies_in_lem s) at (body_links (fares_in s) (sheet_whole s laid))
    ∙ ap (in_order (λ (k : ℕ). link_bytes (link_at (fares_in s) k))) (links_in_lem s)
    ∙ order_same (λ (k : ℕ). link_bytes (link_at (fares_in s) k)) (λ (k : ℕ). link_bytes (link_in s (link_start s k))) (links_in s) (λ k h. ap link_bytes (link_in_lem s k h))

pub rules_body : (s : List ℕ) → SheetLaidOut s → body_in (fares_in s) (companies_in s + 1) ≡ in_order (λ (k : ℕ). rule_bytes (rule_in s (rule_start s k))) (rules_in s)
unfolding rules_bytes
rules_body s laid =
    rw (companies_in_lem s) at (body_rules (fares_in s) (sheet_whole s laid))
    ∙ ap (in_order (λ (k : ℕ). rule_bytes (rule_at (fares_in s) k))) (rules_in_lem s)
    ∙ order_same (λ (k : ℕ). rule_bytes (rule_at (fares_in s) k)) (λ (k : ℕ). rule_bytes (rule_in s (rule_start s k))) (rules_in s) (λ k h. ap rule_bytes (rule_in_lem s k h))

-- ---- the whole book, part after part

pub book_parts : (s : List ℕ) → book_of (fares_in s)
    ≡ header_bytes (fares_in s) ++ (in_order (entry_bytes (fares_in s)) (companies_in s + 2) ++ (in_order (body_in (fares_in s)) (companies_in s) ++ (body_in (fares_in s) (companies_in s) ++ body_in (fares_in s) (companies_in s + 1))))
unfolding book_of
book_parts s =
    let F = fares_in s in
    let n = companies_in s in
    let two : n + 2 ≡ n + 1 + 1 = omega arith in
    let bodies : in_order (body_in F) (n + 2) ≡ in_order (body_in F) n ++ (body_in F n ++ body_in F (n + 1)) =
    ap (in_order (body_in F)) two
    ∙ order_more (body_in F) (n + 1)
    ∙ ap (λ (x : List ℕ). x ++ body_in F (n + 1)) (order_more (body_in F) n)
    ∙ append_assoc (in_order (body_in F) n) (body_in F n) (body_in F (n + 1)) in
    ap (λ (m : ℕ). header_bytes F ++ (in_order (entry_bytes F) (m + 2) ++ in_order (body_in F) (m + 2))) (companies_in_lem s)
    ∙ ap (λ (x : List ℕ). header_bytes F ++ (in_order (entry_bytes F) (n + 2) ++ x)) bodies
