-- What is true of a valid book: its bodies fill it without gaps, a company's body is never empty, and two stations have at most one link;
-- and that the bad entry a book is refused for is the one of the lowest offset.
use Prim.Native.Nat.{ℕ, zero, suc, ◌+◌, ◌≤◌, ◌<◌}
use Rattle.outline.specs.Refusals.{Judged}
use Rattle.std.proofs.Common.{Ok, Err}
use mathlib.Core.Path.{◌≡◌, refl, sym, ap, ap₂, subst, ◌∙◌}
use mathlib.Core.Bool.{Bool, true, false}
use mathlib.Core.List.{List, []}
use mathlib.Core.Logic.{◌⊎◌, inl, inr, ⊎_elim, ◌↔◌}
use native.Mathlib.Nat.{le_of_suc-le-suc, mul-le-mul_right, not-suc-le-zero, eq-or-lt_of_le}
use native.Mathlib.Numerals.{add-one}
use native.Mathlib.Omega.{arith}
use lib.ListN.{length}
use lib.Dec.{ltb}
use borrow.Author.Tests.{ltb-true, ltb-false, le-ltb, lt-ltb}
use borrow.Author.Count.{below_more}
use Rattle.outline.specs.declared.Station.{Station}
use Rattle.outline.specs.declared.Link.{Link}
use Rattle.std.specs.Prelude.{Option, Some, None}
use Rattle.outline.specs.Tests.{choose}
use Rattle.outline.specs.Fares.{Table, Fares, fare_at, table_at, no_table}
use Rattle.outline.specs.declared.Refusal.TheVariants.{BadEntry}
use Rattle.outline.specs.Network.{Network, network_of, leads, joins, or_else, joined_below, link_between}
use Rattle.outline.specs.Book.{table_of, station_count, company_length, entry_place, company_count, link_count, rule_count, offset_of, length_of, first_body, end_before, body_of, fares_of, network}
use Rattle.outline.specs.Valid.{GoodEntry, Body, LaidOut, ValidBook}
use Rattle.outline.specs.Judging.{entry_offset, book_check, where_good, company_body}
use Rattle.laws.proofs.Tests.{get_or-list_of, compared, true_not_false, both_true, either_true, length-list_of}
use Rattle.laws.proofs.Firsts.{refused_not_good}
use Rattle.laws.proofs.Judging.{same_station_lem, book_good}
use Rattle.laws.proofs.Reading.{body_length, tables_count}
use Rattle.laws.proofs.Order.{GoodLinks, FirstBadIn, FirstBadEntry, bad_entry}

-- ---- the bodies

-- each entry of the contents tells a body that follows the one before and lies in the book
pub body_at : (b : List ℕ) → LaidOut b → (e : ℕ) → e < company_count b + 2 → Body b e
body_at b laid e h =
    let up_to : e ≤ company_count b + 1 = omega arith in
    ⊎_elim
    (λ q. subst (Body b) (sym q) laid.rules.body)
    (λ l.
    let up_to_links : e ≤ company_count b = omega arith in
    ⊎_elim (λ q. subst (Body b) (sym q) laid.links.body) (λ c. (laid.companies e c).body) (eq-or-lt_of_le up_to_links))
    (eq-or-lt_of_le up_to)

-- "Bodies lie in the order of the contents without gaps. The first begins at 4 + 4(C + 2), the last ends where the book ends."
pub record Gapless (b : List ℕ) : Type 0 where
  pub first : offset_of b 0 ≡ first_body b
  pub next : (e : ℕ) → e < company_count b + 1 → offset_of b (e + 1) ≡ offset_of b e + length_of b e
  pub last : offset_of b (company_count b + 1) + length_of b (company_count b + 1) ≡ length b
  pub inside : (e : ℕ) → e < company_count b + 2 → offset_of b e + length_of b e ≤ length b

pub gapless : (b : List ℕ) → LaidOut b → Gapless b
unfolding end_before
gapless b laid =
    record {
      first = (body_at b laid 0 (omega arith)).follows;
      next = λ e h. next e (body_at b laid (e + 1) (omega arith));
      last = laid.ends;
      inside = λ e h. (body_at b laid e h).inside;
    }
  where
    next : (e : ℕ) → Body b (e + 1) → offset_of b (e + 1) ≡ offset_of b e + length_of b e
    next e = rw add-one (λ h. h.follows)

-- a later body begins where an earlier one has ended, or after that
pub later_body : (b : List ℕ) → LaidOut b → (c d : ℕ) → c < d → d < company_count b + 2 → offset_of b c + length_of b c ≤ offset_of b d
later_body b laid c zero l h = absurd (not-suc-le-zero l)
later_body b laid c (suc d) l h =
    let next : offset_of b (suc d) ≡ offset_of b d + length_of b d = rw add-one at ((gapless b laid).next d (omega arith)) in
    ⊎_elim
    (λ q. let same : offset_of b c + length_of b c ≡ offset_of b d + length_of b d = ap (λ (e : ℕ). offset_of b e + length_of b e) q in omega arith)
    (λ m. let before = later_body b laid c d m (omega arith) in omega arith)
    (eq-or-lt_of_le (le_of_suc-le-suc l))

-- ---- a company's body

-- in a valid book it is the part that the contents tell, and it is not empty
pub company_body_lem : (b : List ℕ) (c : ℕ) → ValidBook b → c < company_count b → company_body b c ≡ body_of b c
unfolding company_body where_good choose
company_body_lem b c v h = rw ((book_good b).1 v, lt-ltb _ _ h)

pub company_body_length : (b : List ℕ) (c : ℕ) → ValidBook b → c < company_count b → 0 < length (body_of b c)
company_body_length b c v h =
    let w = v.laid_out.companies c h in
    omega (arith, body_length b c w.body.inside, w.long)

-- "where the book is refused or has no such company, the part is empty, and only then"
pub company_body_empty : (b : List ℕ) (c : ℕ) → (company_body b c ≡ []) ↔ ((book_check b ≡ Ok tt → ⊥) ⊎ (company_count b ≤ c))
unfolding company_body where_good choose
company_body_empty b c = (only, empty)
  where
    only : company_body b c ≡ [] → (book_check b ≡ Ok tt → ⊥) ⊎ (company_count b ≤ c)
    only e = judged (book_check b) refl
      where
        there : book_check b ≡ Ok tt → (t : Bool) → ltb c (company_count b) ≡ t → company_count b ≤ c
        there g true q =
            let h = ltb-true _ _ q in
            let z = ap length (sym (company_body_lem b c ((book_good b).0 g) h) ∙ e) in
            omega (arith, company_body_length b c ((book_good b).0 g) h)
        there g false q = ltb-false _ _ q

        judged : (a : Judged) → book_check b ≡ a → (book_check b ≡ Ok tt → ⊥) ⊎ (company_count b ≤ c)
        judged (Ok _) g = inr (there g (ltb c (company_count b)) refl)
        judged (Err x) r = inl (λ g. refused_not_good (sym r ∙ g))

    empty : (book_check b ≡ Ok tt → ⊥) ⊎ (company_count b ≤ c) → company_body b c ≡ []
    empty (inl n) = judged (book_check b) refl
      where
        judged : (a : Judged) → book_check b ≡ a → where_good a (choose (ltb c (company_count b)) (body_of b c) []) [] ≡ []
        judged (Ok _) g = absurd (n g)
        judged (Err x) r = refl
    empty (inr l) = judged (book_check b)
      where
        judged : (a : Judged) → where_good a (choose (ltb c (company_count b)) (body_of b c) []) [] ≡ []
        judged (Ok _) = rw (le-ltb _ _ l)
        judged (Err x) = refl

-- ---- the links between two stations

abbrev link_from : Station → Station → Link
link_from x y = record { one = x; other = y }

leads_true : (l : Link) (x y : Station) → leads l x y ≡ true → l ≡ link_from x y
unfolding leads
leads_true l x y e =
    let p = both_true _ _ e in
    ap₂ link_from (same_station_lem l.one x p.0) (same_station_lem l.other y p.1)

-- a link that joins two stations is written from the one to the other, or from the other to the one
pub joins_true : (l : Link) (x y : Station) → joins l x y ≡ true → (l ≡ link_from x y) ⊎ (l ≡ link_from y x)
unfolding joins
joins_true l x y e = ⊎_elim (λ p. inl (leads_true l x y p)) (λ q. inr (leads_true l y x q)) (either_true _ _ e)

module _ (N : Network) (good : GoodLinks N) where
  -- the same link has one number
  same_number : (j k : ℕ) → j < N.links → k < N.links → N.link j ≡ N.link k → j ≡ k
  same_number j k hj hk e =
      ⊎_elim (λ l. absurd ((good k hk).1 j l e)) (⊎_elim (λ q. q) (λ l. absurd ((good j hj).1 k l (sym e)))) (compared j k)

  -- a link and the same link the other way round are not both good
  one_way : (j k : ℕ) → j < N.links → k < N.links → (x y : Station) → N.link j ≡ link_from x y → N.link k ≡ link_from y x → ⊥
  one_way j k hj hk x y p q =
      let there : x.company < y.company = rw p at (good j hj).0.ordered in
      let back : y.company < x.company = rw q at (good k hk).0.ordered in
      omega arith

  -- two stations have at most one link
  pub one_link : (j k : ℕ) → j < N.links → k < N.links → (x y : Station) → joins (N.link j) x y ≡ true → joins (N.link k) x y ≡ true → j ≡ k
  one_link j k hj hk x y p q = go (joins_true _ x y p) (joins_true _ x y q)
    where
      go : (N.link j ≡ link_from x y) ⊎ (N.link j ≡ link_from y x) → (N.link k ≡ link_from x y) ⊎ (N.link k ≡ link_from y x) → j ≡ k
      go (inl e) (inl f) = same_number j k hj hk (e ∙ sym f)
      go (inl e) (inr f) = absurd (one_way j k hj hk x y e f)
      go (inr e) (inl f) = absurd (one_way k j hk hj x y f e)
      go (inr e) (inr f) = same_number j k hj hk (e ∙ sym f)

-- what is found among the first n links

else_none : (a next : Option ℕ) → or_else a next ≡ None → (a ≡ None) × (next ≡ None)
unfolding or_else
else_none (Some k) next e = absurd (let z : ◌≡◌ {A = ℕ} 0 1 = cc in omega arith)
else_none None next e = (refl, e)

else_by : (a next : Option ℕ) (k : ℕ) → or_else a next ≡ Some k → (a ≡ Some k) ⊎ (next ≡ Some k)
unfolding or_else
else_by (Some j) next k e = inl e
else_by None next k e = inr e

here_none : (t : Bool) (n : ℕ) → choose t (Some n) None ≡ None → t ≡ false
unfolding choose
here_none true n e = absurd (let z : ◌≡◌ {A = ℕ} 0 1 = cc in omega arith)
here_none false n e = refl

here_by : (t : Bool) (n k : ℕ) → choose t (Some n) None ≡ Some k → (t ≡ true) × (n ≡ k)
unfolding choose
here_by true n k e = (refl, cc)
here_by false n k e = absurd (let z : ◌≡◌ {A = ℕ} 0 1 = cc in omega arith)

module _ (N : Network) (x y : Station) where
  joined_none : (n : ℕ) → joined_below N x y n ≡ None → (k : ℕ) → k < n → joins (N.link k) x y ≡ false
  unfolding joined_below
  joined_none zero e k h = absurd (not-suc-le-zero h)
  joined_none (suc n) e k h =
      let p = else_none (joined_below N x y n) _ e in
      below_more (λ (j : ℕ). joins (N.link j) x y ≡ false) n (joined_none n p.0) (here_none _ n p.1) k (omega arith)

  none_joined : (n : ℕ) → ((k : ℕ) → k < n → joins (N.link k) x y ≡ false) → joined_below N x y n ≡ None
  unfolding joined_below or_else choose
  none_joined zero h = refl
  none_joined (suc n) h = rw (none_joined n (λ k l. h k (omega arith)), h n (omega arith))

  joined_by : (n k : ℕ) → joined_below N x y n ≡ Some k → (k < n) × (joins (N.link k) x y ≡ true)
  unfolding joined_below
  joined_by zero k e = absurd (let z : ◌≡◌ {A = ℕ} 0 1 = cc in omega arith)
  joined_by (suc n) k e =
      ⊎_elim
      (λ a. let p = joined_by n k a in (omega arith, p.1))
      (λ h. let p = here_by (joins (N.link n) x y) n k h in (omega arith, rw (← p.1) p.0))
      (else_by (joined_below N x y n) _ k e)

  -- no link is found exactly where no link joins the stations
  pub no_link_lem : (link_between N x y ≡ None) ↔ ((k : ℕ) → k < N.links → joins (N.link k) x y ≡ false)
  unfolding link_between
  no_link_lem = (joined_none N.links, none_joined N.links)

  -- a link that is found is one of the network's and joins the stations
  pub found_link : (k : ℕ) → link_between N x y ≡ Some k → (k < N.links) × (joins (N.link k) x y ≡ true)
  unfolding link_between
  found_link k e = joined_by N.links k e

  -- where the links are good, link k is found exactly where it joins the stations
  pub by_link : GoodLinks N → (k : ℕ) → (link_between N x y ≡ Some k) ↔ ((k < N.links) × (joins (N.link k) x y ≡ true))
  unfolding link_between
  by_link good k = (joined_by N.links k, λ h. go h.0 h.1 (joined_below N x y N.links) refl)
    where
      go : k < N.links → joins (N.link k) x y ≡ true → (a : Option ℕ) → joined_below N x y N.links ≡ a → joined_below N x y N.links ≡ Some k
      go h e (Some j) q =
          let p = joined_by N.links j q in
          q ∙ ap Some (one_link N good j k p.0 h x y p.1 e)
      go h e None q = absurd (true_not_false (sym e ∙ joined_none N.links q k h))

-- the links of a valid book are good
pub book_links : (b : List ℕ) → ValidBook b → GoodLinks (network b)
unfolding network
book_links b v = v.fares.links

-- ---- the counts

pub network_counts : (b : List ℕ) → ((network b).companies ≡ company_count b) × ((network b).links ≡ link_count b) × ((network b).rules ≡ rule_count b)
unfolding network network_of fares_of
network_counts b = (length-list_of _ _, length-list_of _ _, length-list_of _ _)

-- ---- the place of a bad entry

-- the entry of company c, row i, column j is there and is bad
pub record BadEntryAt (F : Fares) (c i j : ℕ) : Type 0 where
  pub company : c < length F.tables
  pub row : i < (table_at F c).stations
  pub column : j < (table_at F c).stations
  pub bad : GoodEntry i j (fare_at (table_at F c) i j) → ⊥

-- an entry ends in its company's body
entry_inside : (n i j : ℕ) → i < n → j < n → entry_place n i j + 2 ≤ company_length n
entry_inside n i j hi hj = omega (arith, mul-le-mul_right n hi)

later_row : (n i j k l : ℕ) → i < k → j < n → entry_place n i j ≤ entry_place n k l
later_row n i j k l h hj = omega (arith, mul-le-mul_right n h)

-- in its table, the first bad entry has the lowest place of all
first_in_table : (t : Table) (i j k l : ℕ) → FirstBadIn t i j → l < t.stations → (GoodEntry k l (fare_at t k l) → ⊥)
    → entry_place t.stations i j ≤ entry_place t.stations k l
first_in_table t i j k l f hl bad = rows (compared k i)
  where
    columns : k ≡ i → (l < j) ⊎ ((l ≡ j) ⊎ (j < l)) → entry_place t.stations i j ≤ entry_place t.stations k l
    columns q (inl left) = absurd (bad (subst (λ (m : ℕ). GoodEntry m l (fare_at t m l)) (sym q) (f.columns l left)))
    columns q (inr (inl p)) = rw q (omega arith)
    columns q (inr (inr right)) = rw q (omega arith)

    rows : (k < i) ⊎ ((k ≡ i) ⊎ (i < k)) → entry_place t.stations i j ≤ entry_place t.stations k l
    rows (inl above) = absurd (bad (f.rows k l above hl))
    rows (inr (inl q)) = columns q (compared l j)
    rows (inr (inr below)) = later_row t.stations i j k l below f.column

-- each table that the book says has its body's stations
table_stations : (b : List ℕ) (c : ℕ) → c < length (fares_of b).tables → (table_at (fares_of b) c).stations ≡ station_count (body_of b c)
unfolding fares_of table_of
table_stations b c h =
    let l : c < company_count b = omega (arith, tables_count b) in
    ap (λ (t : Table). t.stations) (get_or-list_of (λ (d : ℕ). table_of (body_of b d)) (company_count b) c no_table l)

entry_offset_lem : (b : List ℕ) (c i j : ℕ) → c < length (fares_of b).tables → entry_offset b c i j ≡ offset_of b c + entry_place (table_at (fares_of b) c).stations i j
unfolding entry_offset
entry_offset_lem b c i j h = rw (table_stations b c h)

-- 6 names the lowest offset in the book of all bad entries
pub lowest_bad_entry : (b : List ℕ) (p : ℕ) → book_check b ≡ Err (BadEntry p) → (c i j : ℕ) → BadEntryAt (fares_of b) c i j → p ≤ entry_offset b c i j
lowest_bad_entry b p e c i j h =
    let (laid, found) = (bad_entry b p).0 e in
    let (d, k, l, q, f) = found in
    rw q (companies laid d k l f (compared c d))
  where
    companies : LaidOut b → (d k l : ℕ) → FirstBadEntry (fares_of b) d k l → (c < d) ⊎ ((c ≡ d) ⊎ (d < c)) → entry_offset b d k l ≤ entry_offset b c i j
    companies laid d k l f (inl earlier) = absurd (h.bad (f.companies c earlier i j h.row h.column))
    companies laid d k l f (inr (inl s)) =
        let first : FirstBadIn (table_at (fares_of b) c) k l = subst (λ (a : ℕ). FirstBadIn (table_at (fares_of b) a) k l) (sym s) f.entry in
        let low = first_in_table (table_at (fares_of b) c) k l i j first h.column h.bad in
        rw (← s) (omega (arith, entry_offset_lem b c k l h.company, entry_offset_lem b c i j h.company))
    companies laid d k l f (inr (inr later)) =
        let count = tables_count b in
        let have = f.company in
        let here = h.company in
        let in_book : d < company_count b = omega arith in
        let after = later_body b laid d c later (omega arith) in
        let long : length_of b d ≡ company_length (table_at (fares_of b) d).stations = rw (table_stations b d have) (laid.companies d in_book).long in
        let end = entry_inside (table_at (fares_of b) d).stations k l f.entry.row f.entry.column in
        omega (arith, entry_offset_lem b d k l have, entry_offset_lem b c i j here)
