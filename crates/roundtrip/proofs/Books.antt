-- The book of the fares that a book says is that book, and the fares that the book of whole fares says are those fares.
use Prim.Native.Nat.{ℕ, zero, suc, ◌+◌, ◌*◌, ◌≤◌, ◌<◌}
use mathlib.Core.Path.{◌≡◌, refl, sym, ap, ap₂, ◌∙◌, subst}
use mathlib.Core.List.{List, [], ◌∷◌, ◌++◌, append_assoc}
use mathlib.Core.Logic.{⊎_elim}
use native.Mathlib.Nat.{eq-or-lt_of_le}
use native.Mathlib.Numerals.{add-one}
use native.Mathlib.Omega.{arith}
use lib.ListN.{length, get_or, take, drop, length-append, length-drop}
use lib.Seq.{drop-drop, drop_at, drop-cons, get_or-drop}
use Rattle.outline.specs.declared.Link.{Link}
use Rattle.outline.specs.Tests.{in_order, part}
use Rattle.outline.specs.declared.Rule.{Rule}
use Rattle.outline.specs.Fares.{Table, Fares, table_at, link_at, rule_at, no_table, no_link, no_rule}
use Rattle.outline.specs.Book.{word_at, layout_number, company_count, link_count, rule_count, offset_of, length_of, links_entry, rules_entry, end_before, body_of, company_length, station_count, table_of, link_of, rule_length, rule_of, fares_of}
use Rattle.outline.specs.Valid.{Body, CompanyBody, LaidOut, Bytes}
use Rattle.outline.specs.Sheet.{link_in, link_sheet}
use Rattle.outline.specs.Writing.{two_bytes, table_bytes, link_bytes, rule_bytes, links_bytes, rules_bytes, body_in, header_bytes, offset_in, entry_bytes, book_of}
use Rattle.laws.proofs.Reading.{part_more, part_one, body_length, company_long, rule_first, rule_maps, RuleSized}
use Rattle.laws.proofs.Book.{gapless}
use Rattle.filling.proofs.InOrder.{order_more_length, order_room, order_part, order_whole, order_length}
use Rattle.filling.proofs.Sizes.{link_bytes_length, rule_bytes_length}
use Rattle.filling.proofs.Whole.{Whole, book_whole, tables_of, links_of, rules_of, table_of_lem, link_of_lem, rule_of_lem, body_company, body_links, body_rules, company_bytes_length, links_bytes_length, rules_bytes_length, entry_length, contents_length, bodies_length, book_length}
use Rattle.roundtrip.proofs.Pieces.{part_skip, part_first, tail_of, piece_at, number_at, part_whole, part_four, listed, words_bytes, bytes_words, word_back, word_again}
use Rattle.roundtrip.proofs.Sheets.{link_again, link_back}

two_long : (x : ℕ) → length (two_bytes x) ≡ 2
unfolding two_bytes
two_long x = refl

-- ---- one table, link and rule

table_back : (t : Table) → table_of (table_bytes t) ≡ t
unfolding table_of table_bytes
table_back t = rw (words_bytes t.fares) refl

link_from_lem : (l : Link) (body : List ℕ) (k : ℕ) → part body (4 * k) 4 ≡ link_bytes l → link_of body k ≡ l
unfolding link_of link_in link_bytes link_sheet
link_from_lem l body k e = link_back l body (4 * k) e

rule_from : (r : Rule) (body : List ℕ) (k : ℕ) → RuleSized r → part body (33 * k) 33 ≡ rule_bytes r → rule_of body k ≡ r
unfolding rule_bytes rule_of
rule_from r body k sized e =
    let at : ℕ = 33 * k in
    let rest = drop 33 (drop at body) in
    let first : List ℕ = r.rides ∷ r.companies in
    let word : List ℕ = two_bytes r.amount in
    let two : length word ≡ 2 = two_long r.amount in
    let tail : drop at body ≡ first ++ (word ++ (r.boarding ++ (r.alighting ++ (r.permitted ++ rest)))) = tail_of body _ at 33 e ∙ simp append_assoc in
    let zero_more : at + 0 ≡ at = omega arith in
    let rides : get_or body at 0 ≡ r.rides = ap (λ (i : ℕ). get_or body i 0) (sym zero_more) ∙ number_at body [] _ r.rides at 0 tail refl in
    let companies : part body (at + 1) 4 ≡ r.companies = piece_at body (r.rides ∷ []) r.companies _ at 1 4 tail refl sized.companies in
    let five : length first ≡ 5 = omega (arith, sized.companies) in
    let amount : word_at body (at + 5) ≡ r.amount = word_back body _ r.amount (at + 5) (sym (drop-drop 5 at body) ∙ ap (drop 5) tail ∙ drop_at first _ 5 five) in
    let seven : length (first ++ word) ≡ 7 = simp length-append (omega arith) in
    let boarding : part body (at + 7) 5 ≡ r.boarding = piece_at body (first ++ word) r.boarding (r.alighting ++ (r.permitted ++ rest)) at 7 5 (tail ∙ sym (append_assoc first word _)) seven sized.boarding in
    let twelve : length (first ++ (word ++ r.boarding)) ≡ 12 = simp length-append (omega (arith, sized.boarding)) in
    let alighting : part body (at + 12) 5 ≡ r.alighting = piece_at body (first ++ (word ++ r.boarding)) r.alighting (r.permitted ++ rest) at 12 5 (tail ∙ simp append_assoc) twelve sized.alighting in
    let seventeen : length (first ++ (word ++ (r.boarding ++ r.alighting))) ≡ 17 = simp length-append (omega (arith, sized.boarding, sized.alighting)) in
    let permitted : part body (at + 17) 16 ≡ r.permitted = piece_at body (first ++ (word ++ (r.boarding ++ r.alighting))) r.permitted rest at 17 16 (tail ∙ simp append_assoc) seventeen sized.permitted in
    rw (rides, companies, amount, boarding, alighting, permitted) refl

-- ---- what the book of whole fares says

module _ (F : Fares) (whole : Whole F) where
  book_counts : (layout_number (book_of F) ≡ 1) × (company_count (book_of F) ≡ length F.tables) × (link_count (book_of F) ≡ length F.links) × (rule_count (book_of F) ≡ length F.rules)
  unfolding book_of header_bytes
  book_counts = (refl, refl, refl, refl)

  after_header : (i n : ℕ) → part (book_of F) (4 + i) n ≡ part (in_order (entry_bytes F) (length F.tables + 2) ++ in_order (body_in F) (length F.tables + 2)) i n
  unfolding book_of header_bytes
  after_header i n = part_skip (header_bytes F) _ 4 i n refl

  entry_place : (e : ℕ) → e < length F.tables + 2 → part (book_of F) (4 + 4 * e) 4 ≡ entry_bytes F e
  entry_place e h =
      let n = length F.tables + 2 in
      let all = contents_length F whole n in
      after_header (4 * e) 4
      ∙ part_first (in_order (entry_bytes F) n) (in_order (body_in F) n) (4 * e) 4 (omega arith)
      ∙ ap₂ (part (in_order (entry_bytes F) n)) (sym (contents_length F whole e)) (sym (entry_length F whole e))
      ∙ order_part (entry_bytes F) n e h

  body_place : (e : ℕ) → e < length F.tables + 2 → part (book_of F) (offset_in F e) (length (body_in F e)) ≡ body_in F e
  body_place e h =
      let n = length F.tables + 2 in
      let before = length (in_order (body_in F) e) in
      let at : offset_in F e ≡ 4 + (4 * n + before) = omega arith in
      ap (λ (i : ℕ). part (book_of F) i (length (body_in F e))) at
      ∙ after_header (4 * n + before) (length (body_in F e))
      ∙ part_skip (in_order (entry_bytes F) n) (in_order (body_in F) n) (4 * n) before (length (body_in F e)) (contents_length F whole n)
      ∙ order_part (body_in F) n e h

  entry_tail : (e : ℕ) → e < length F.tables + 2
      → drop (4 + 4 * e) (book_of F) ≡ two_bytes (offset_in F e) ++ (two_bytes (length (body_in F e)) ++ drop 4 (drop (4 + 4 * e) (book_of F)))
  unfolding entry_bytes
  entry_tail e h = tail_of (book_of F) (entry_bytes F e) (4 + 4 * e) 4 (entry_place e h) ∙ append_assoc (two_bytes (offset_in F e)) (two_bytes (length (body_in F e))) _

  offset_is : (e : ℕ) → e < length F.tables + 2 → offset_of (book_of F) e ≡ offset_in F e
  unfolding offset_of
  offset_is e h = word_back (book_of F) _ (offset_in F e) (4 + 4 * e) (entry_tail e h)

  length-is : (e : ℕ) → e < length F.tables + 2 → length_of (book_of F) e ≡ length (body_in F e)
  unfolding length_of
  length-is e h =
      word_back (book_of F) _ (length (body_in F e)) (4 + 4 * e + 2)
      (sym (drop-drop 2 (4 + 4 * e) (book_of F)) ∙ ap (drop 2) (entry_tail e h) ∙ drop_at (two_bytes (offset_in F e)) _ 2 (two_long (offset_in F e)))

  body_is : (e : ℕ) → e < length F.tables + 2 → body_of (book_of F) e ≡ body_in F e
  unfolding body_of
  body_is e h = ap₂ (part (book_of F)) (offset_is e h) (length-is e h) ∙ body_place e h

  total : length (book_of F) ≡ 4 + 4 * (length F.tables + 2) + length (in_order (body_in F) (length F.tables + 2))
  total = omega (arith, book_length F whole, bodies_length F whole)

  follows : (e : ℕ) → e < length F.tables + 2 → offset_of (book_of F) e ≡ end_before (book_of F) e
  unfolding end_before in_order
  follows zero h = omega (arith, offset_is zero h, book_counts.1)
  follows (suc e) h =
      omega (arith, offset_is (suc e) h, offset_is e (omega arith), length-is e (omega arith), length-append (in_order (body_in F) e) (body_in F e))

  body_laid : (e : ℕ) → e < length F.tables + 2 → Body (book_of F) e
  body_laid e h =
      record {
        follows = follows e h;
        inside = omega (arith, offset_is e h, length-is e h, order_room (body_in F) (length F.tables + 2) e h, total);
      }

  company_laid : (c : ℕ) → c < length F.tables → CompanyBody (book_of F) c
  unfolding table_bytes
  company_laid c h =
      let n : station_count (body_of (book_of F) c) ≡ (table_at F c).stations = ap station_count (body_is c (omega arith) ∙ body_company F whole c h) in
      record {
        body = body_laid c (omega arith);
        stations = rw n (whole.stations c h);
        long = length-is c (omega arith) ∙ company_bytes_length F whole c h ∙ ap (λ (m : ℕ). company_length m) (sym n);
      }

  pub book_laid_out : LaidOut (book_of F)
  book_laid_out =
      let n = length F.tables in
      record {
        header = record {
          present = omega (arith, total);
          layout = book_counts.0;
          companies = rw book_counts.1 whole.companies;
          links = rw book_counts.2 whole.links;
          rules = rw book_counts.3 whole.rules;
          contents = omega (arith, total, book_counts.1);
        };
        companies = λ c h. company_laid c (rw book_counts.1 at h);
        links = rw (book_counts.1, book_counts.2) (record { body = body_laid n (omega arith); long = length-is n (omega arith) ∙ links_bytes_length F whole });
        rules = rw (book_counts.1, book_counts.3) (record { body = body_laid (n + 1) (omega arith); long = length-is (n + 1) (omega arith) ∙ rules_bytes_length F whole });
        ends = rw book_counts.1 ends;
      }
    where
      ends : offset_of (book_of F) (length F.tables + 1) + length_of (book_of F) (length F.tables + 1) ≡ length (book_of F)
      ends =
          let n = length F.tables in
          let two : n + 2 ≡ n + 1 + 1 = omega arith in
          let last = ap (λ (m : ℕ). length (in_order (body_in F) m)) two ∙ order_more_length (body_in F) (n + 1) in
          omega (arith, offset_is (n + 1) (omega arith), length-is (n + 1) (omega arith), total)

  table_read : (c : ℕ) → c < length F.tables → table_of (body_of (book_of F) c) ≡ table_at F c
  table_read c h = ap table_of (body_is c (omega arith) ∙ body_company F whole c h) ∙ table_back (table_at F c)

  link_read : (k : ℕ) → k < length F.links → link_of (body_of (book_of F) (length F.tables)) k ≡ link_at F k
  unfolding links_bytes
  link_read k h =
      let link : ℕ → List ℕ = λ j. link_bytes (link_at F j) in
      let some = order_length link 4 k (λ j l. link_bytes_length (link_at F j)) in
      ap (λ (x : List ℕ). link_of x k) (body_is (length F.tables) (omega arith) ∙ body_links F whole)
      ∙ link_from_lem (link_at F k) (links_bytes F) k (ap₂ (part (links_bytes F)) (sym some) (sym (link_bytes_length (link_at F k))) ∙ order_part link (length F.links) k h)

  rule_read : (k : ℕ) → k < length F.rules → rule_of (body_of (book_of F) (length F.tables + 1)) k ≡ rule_at F k
  unfolding rules_bytes
  rule_read k h =
      let rule : ℕ → List ℕ = λ j. rule_bytes (rule_at F j) in
      let some = order_length rule 33 k (λ j l. rule_bytes_length (rule_at F j) (whole.sized j (omega arith))) in
      let one = rule_bytes_length (rule_at F k) (whole.sized k h) in
      ap (λ (x : List ℕ). rule_of x k) (body_is (length F.tables + 1) (omega arith) ∙ body_rules F whole)
      ∙ rule_from (rule_at F k) (rules_bytes F) k (whole.sized k h) (ap₂ (part (rules_bytes F)) (sym some) (sym one) ∙ order_part rule (length F.rules) k h)

  pub fares_back : fares_of (book_of F) ≡ F
  unfolding fares_of
  fares_back =
      let b = book_of F in
      let companies = book_counts.1 in
      let tables = listed (λ (c : ℕ). table_of (body_of b c)) F.tables no_table (company_count b) companies (λ c h. table_read c (rw companies at h)) in
      let links = listed (λ (k : ℕ). link_of (body_of b (links_entry b)) k) F.links no_link (link_count b) book_counts.2 (λ k h. rw companies (link_read k (rw book_counts.2 at h))) in
      let rules = listed (λ (k : ℕ). rule_of (body_of b (rules_entry b)) k) F.rules no_rule (rule_count b) book_counts.3 (λ k h. rw companies (rule_read k (rw book_counts.3 at h))) in
      rw (tables, links, rules) refl

-- ---- the book of what a book says

-- a part of bytes is of bytes
part_bytes : (b : List ℕ) (from n : ℕ) → Bytes b → Bytes (part b from n)
part_bytes b from zero h i = omega arith
part_bytes b from (suc n) h i = go (drop from b) (λ j. rw get_or-drop (h (from + j))) (suc n) i
  where
    go : (l : List ℕ) → Bytes l → (m : ℕ) → Bytes (take m l)
    go l k zero i = omega arith
    go [] k (suc m) i = omega arith
    go (x ∷ l) k (suc m) zero = k 0
    go (x ∷ l) k (suc m) (suc i) = go l (λ j. k (suc j)) m i

drop-bytes : (b : List ℕ) (n : ℕ) → Bytes b → Bytes (drop n b)
drop-bytes b n h i = rw get_or-drop (h (n + i))

table_again : (body : List ℕ) → length body ≡ company_length (station_count body) → Bytes body → table_bytes (table_of body) ≡ body
unfolding table_bytes table_of
table_again body long bytes =
    let n : ℕ = station_count body in
    let some : 0 < length body = omega arith in
    rw (bytes_words (drop 1 body) (n * n) (omega (arith, length-drop 1 body)) (drop-bytes body 1 bytes)) (sym (drop-cons body 0 0 some))

link_written : (body : List ℕ) (k : ℕ) → 4 * k + 4 ≤ length body → link_bytes (link_of body k) ≡ part body (4 * k) 4
unfolding link_bytes link_of link_sheet link_in
link_written body k h = link_again body (4 * k) h

part_body : (b : List ℕ) (e : ℕ) → part b (offset_of b e) (length_of b e) ≡ body_of b e
unfolding body_of
part_body b e = refl

rule_bytes_again : (body : List ℕ) (k : ℕ) → rule_length * k + rule_length ≤ length body → Bytes body → rule_bytes (rule_of body k) ≡ part body (33 * k) 33
unfolding rule_bytes rule_of
rule_bytes_again body k h bytes =
    let at : ℕ = 33 * k in
    let seven : at + 5 + 2 ≡ at + 7 = omega arith in
    sym
    (part_more body at 5 28
    ∙ ap₂ (λ (x y : List ℕ). x ++ y) (rule_first body k h)
    (part_more body (at + 5) 2 26
    ∙ ap₂ (λ (x y : List ℕ). x ++ y) (amount body at (omega arith) bytes)
    (ap (λ (i : ℕ). part body i 26) seven ∙ rule_maps body k)))
  where
    amount : (body : List ℕ) (at : ℕ) → at + 33 ≤ length body → Bytes body → part body (at + 5) 2 ≡ two_bytes (word_at body (at + 5))
    amount body at h bytes =
        part_one body (at + 5) 1 (omega arith)
        ∙ ap (λ (x : List ℕ). get_or body (at + 5) 0 ∷ x) (part_one body (at + 5 + 1) 0 (omega arith))
        ∙ sym (word_again body (at + 5) (bytes (at + 5)) (bytes (at + 5 + 1)))

module _ (b : List ℕ) (laid : LaidOut b) (bytes : Bytes b) where
  company_again : (c : ℕ) → c < company_count b → body_in (fares_of b) c ≡ body_of b c
  unfolding body_of
  company_again c h =
      body_company (fares_of b) (book_whole b laid) c (rw (tables_of b) h)
      ∙ ap table_bytes (table_of_lem b c h)
      ∙ table_again (body_of b c) (company_long b laid c h) (part_bytes b (offset_of b c) (length_of b c) bytes)

  links_again : body_in (fares_of b) (company_count b) ≡ body_of b (links_entry b)
  unfolding links_bytes
  links_again =
      let body = body_of b (links_entry b) in
      let link : ℕ → List ℕ = λ k. link_bytes (link_at (fares_of b) k) in
      let all = order_length link 4 (length (fares_of b).links) (λ k l. link_bytes_length (link_at (fares_of b) k)) in
      let long = body_length b (links_entry b) laid.links.body.inside ∙ laid.links.long in
      rw (tables_of b) at (body_links (fares_of b) (book_whole b laid))
      ∙ sym (order_whole link body 0 (length (fares_of b).links) each)
      ∙ part_whole body (length (in_order link (length (fares_of b).links))) (omega (arith, links_of b))
    where
      each : (k : ℕ) → k < length (fares_of b).links
          → part (body_of b (links_entry b)) (0 + length (in_order (λ (j : ℕ). link_bytes (link_at (fares_of b) j)) k)) (length (link_bytes (link_at (fares_of b) k))) ≡ link_bytes (link_at (fares_of b) k)
      each k h =
          let body = body_of b (links_entry b) in
          let link : ℕ → List ℕ = λ j. link_bytes (link_at (fares_of b) j) in
          let known : k < link_count b = rw (links_of b) at h in
          let long = body_length b (links_entry b) laid.links.body.inside ∙ laid.links.long in
          let some = order_length link 4 k (λ j l. link_bytes_length (link_at (fares_of b) j)) in
          let at : 0 + length (in_order link k) ≡ 4 * k = omega arith in
          ap₂ (part body) at (link_bytes_length (link_at (fares_of b) k))
          ∙ sym (ap link_bytes (link_of_lem b k known) ∙ link_written body k (omega arith))

  rules_again : body_in (fares_of b) (company_count b + 1) ≡ body_of b (rules_entry b)
  unfolding rules_bytes body_of
  rules_again =
      let body = body_of b (rules_entry b) in
      let rule : ℕ → List ℕ = λ k. rule_bytes (rule_at (fares_of b) k) in
      let whole = book_whole b laid in
      let all = order_length rule 33 (length (fares_of b).rules) (λ k l. rule_bytes_length (rule_at (fares_of b) k) (whole.sized k l)) in
      let long = body_length b (rules_entry b) laid.rules.body.inside ∙ laid.rules.long in
      rw (tables_of b) at (body_rules (fares_of b) (book_whole b laid))
      ∙ sym (order_whole rule body 0 (length (fares_of b).rules) each)
      ∙ part_whole body (length (in_order rule (length (fares_of b).rules))) (omega (arith, rules_of b))
    where
      each : (k : ℕ) → k < length (fares_of b).rules
          → part (body_of b (rules_entry b)) (0 + length (in_order (λ (j : ℕ). rule_bytes (rule_at (fares_of b) j)) k)) (length (rule_bytes (rule_at (fares_of b) k))) ≡ rule_bytes (rule_at (fares_of b) k)
      each k h =
          let body = body_of b (rules_entry b) in
          let rule : ℕ → List ℕ = λ j. rule_bytes (rule_at (fares_of b) j) in
          let whole = book_whole b laid in
          let known : k < rule_count b = rw (rules_of b) at h in
          let long = body_length b (rules_entry b) laid.rules.body.inside ∙ laid.rules.long in
          let some = order_length rule 33 k (λ j l. rule_bytes_length (rule_at (fares_of b) j) (whole.sized j (omega arith))) in
          let at : 0 + length (in_order rule k) ≡ 33 * k = omega arith in
          ap₂ (part body) at (rule_bytes_length (rule_at (fares_of b) k) (whole.sized k h))
          ∙ sym (ap rule_bytes (rule_of_lem b k known) ∙ rule_bytes_again body k (omega arith) (part_bytes b (offset_of b (rules_entry b)) (length_of b (rules_entry b)) bytes))

  body_again : (e : ℕ) → e < company_count b + 2 → body_in (fares_of b) e ≡ body_of b e
  body_again e h =
      let up_to : e ≤ company_count b + 1 = omega arith in
      ⊎_elim
      (λ q. subst (λ (i : ℕ). body_in (fares_of b) i ≡ body_of b i) (sym q) rules_again)
      (λ l.
      let up_to_links : e ≤ company_count b = omega arith in
      ⊎_elim (λ q. subst (λ (i : ℕ). body_in (fares_of b) i ≡ body_of b i) (sym q) links_again) (λ c. company_again e c) (eq-or-lt_of_le up_to_links))
      (eq-or-lt_of_le up_to)

  body_long : (e : ℕ) → e < company_count b + 2 → length (body_in (fares_of b) e) ≡ length_of b e
  body_long e h = ap length (body_again e h) ∙ body_length b e ((gapless b laid).inside e h)

  offset_again : (e : ℕ) → e < company_count b + 2 → offset_of b e ≡ offset_in (fares_of b) e
  unfolding in_order
  offset_again zero h = omega (arith, (gapless b laid).first, tables_of b)
  offset_again (suc e) h =
      let next : offset_of b (suc e) ≡ offset_of b e + length_of b e = rw add-one at ((gapless b laid).next e (omega arith)) in
      omega (arith, offset_again e (omega arith), body_long e (omega arith), length-append (in_order (body_in (fares_of b)) e) (body_in (fares_of b) e))

  entry_again : (e : ℕ) → e < company_count b + 2 → part b (4 + 4 * e) 4 ≡ entry_bytes (fares_of b) e
  unfolding entry_bytes offset_of length_of
  entry_again e h =
      let at : ℕ = 4 + 4 * e in
      let three : at + 2 + 1 ≡ at + 3 = omega arith in
      let offset = word_again b at (bytes at) (bytes (at + 1)) in
      let long : two_bytes (word_at b (at + 2)) ≡ get_or b (at + 2) 0 ∷ get_or b (at + 3) 0 ∷ [] = word_again b (at + 2) (bytes (at + 2)) (bytes (at + 2 + 1)) ∙ ap (λ (i : ℕ). get_or b (at + 2) 0 ∷ get_or b i 0 ∷ []) three in
      part_four b at (omega (arith, laid.header.contents))
      ∙ sym (ap₂ (λ (x y : List ℕ). x ++ y) offset long)
      ∙ ap₂ (λ (x y : ℕ). two_bytes x ++ two_bytes y) (offset_again e h) (sym (body_long e h))

  pub book_again : book_of (fares_of b) ≡ b
  unfolding book_of header_bytes
  book_again =
      let F = fares_of b in
      let whole = book_whole b laid in
      let n = length F.tables + 2 in
      let many = tables_of b in
      let entries = length (in_order (entry_bytes F) n) in
      let bodies = length (in_order (body_in F) n) in
      let entries-long = contents_length F whole n in
      let two : n ≡ length F.tables + 1 + 1 = omega arith in
      let last = ap (λ (m : ℕ). length (in_order (body_in F) m)) two ∙ order_more_length (body_in F) (length F.tables + 1) in
      let last-body = body_long (company_count b + 1) (omega arith) in
      let last-offset = offset_again (company_count b + 1) (omega arith) in
      let same : length F.tables + 1 ≡ company_count b + 1 = omega arith in
      let last-same = ap (λ (m : ℕ). length (in_order (body_in F) m) + length (body_in F m)) same in
      let all : 4 + (entries + bodies) ≡ length b = omega (arith, (gapless b laid).last) in
      sym
      (sym (part_whole b (4 + (entries + bodies)) all)
      ∙ part_more b 0 4 (entries + bodies)
      ∙ ap₂ (λ (x y : List ℕ). x ++ y) header
      (part_more b 4 entries bodies
      ∙ ap₂ (λ (x y : List ℕ). x ++ y) (order_whole (entry_bytes F) b 4 n entry) (order_whole (body_in F) b (4 + entries) n body)))
    where
      header : part b 0 4 ≡ 1 ∷ length (fares_of b).tables ∷ length (fares_of b).links ∷ length (fares_of b).rules ∷ []
      header = part_four b 0 laid.header.present ∙ rw (tables_of b, links_of b, rules_of b, laid.header.layout) refl

      entry : (e : ℕ) → e < length (fares_of b).tables + 2 → part b (4 + length (in_order (entry_bytes (fares_of b)) e)) (length (entry_bytes (fares_of b) e)) ≡ entry_bytes (fares_of b) e
      entry e h =
          let whole = book_whole b laid in
          ap₂ (λ (i m : ℕ). part b (4 + i) m) (contents_length (fares_of b) whole e) (entry_length (fares_of b) whole e) ∙ entry_again e (omega (arith, tables_of b))

      body : (e : ℕ) → e < length (fares_of b).tables + 2
          → part b (4 + length (in_order (entry_bytes (fares_of b)) (length (fares_of b).tables + 2)) + length (in_order (body_in (fares_of b)) e)) (length (body_in (fares_of b) e)) ≡ body_in (fares_of b) e
      body e h =
          let known : e < company_count b + 2 = omega (arith, tables_of b) in
          let at : 4 + length (in_order (entry_bytes (fares_of b)) (length (fares_of b).tables + 2)) + length (in_order (body_in (fares_of b)) e) ≡ offset_of b e =
          omega (arith, contents_length (fares_of b) (book_whole b laid) (length (fares_of b).tables + 2), offset_again e known) in
          ap₂ (part b) at (body_long e known) ∙ part_body b e ∙ sym (body_again e known)
