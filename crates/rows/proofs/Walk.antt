-- The rows, one after the other, are the pair lister's output: every row once, in order, and then no more.
use Prim.Native.Nat.{ℕ, zero, suc, ◌+◌, ◌*◌, ◌-◌, ◌≤◌, ◌<◌}
use Rattle.outline.specs.Refusals.{Judged}
use Rattle.std.proofs.Common.{Ok, Err}
use mathlib.Core.Path.{◌≡◌, refl, sym, ap, ◌∙◌}
use mathlib.Core.Bool.{Bool, true, false}
use mathlib.Core.List.{List, [], ◌++◌, append-nil, append_assoc}
use native.Mathlib.Omega.{arith}
use lib.Dec.{ltb}
use lib.ListN.{take}
use borrow.Author.Tests.{ltb-true, ltb-false}
use Rattle.outline.specs.declared.Station.{Station}
use Rattle.outline.specs.declared.Refusal as why
use Rattle.outline.specs.Tests.{choose, in_order}
use Rattle.outline.specs.Network.{Network}
use Rattle.outline.specs.Book.{network}
use Rattle.outline.specs.Valid.{ValidBook}
use Rattle.outline.specs.Judging.{book_check}
use Rattle.outline.specs.Questions.{Known}
use Rattle.outline.specs.Lister.{station, refused_line, lines_of, lister_output}
use Rattle.laws.proofs.Tests.{true_not_false}
use Rattle.laws.proofs.Judging.{book_good}
use Rattle.laws.proofs.Reading.{stations_few, stations_some, companies_few, companies_some}
use Rattle.filling.proofs.InOrder.{order_more}
use Rattle.pairing.proofs.Lines.{all_as_put}
use Rattle.listing.specs.Lines.{lines_from}
use Rattle.rows.specs.declared.Row.{Row}
use Rattle.rows.specs.declared.Row.TheVariants.{Refusal, From, End}
use Rattle.rows.specs.Rows.{first_row, is_row, row_text, row_after_from, row_after, rows_text, Due}

-- what comes after the lines from a station, by its three cases
after_cases : (N : Network) (x : Station) (P : Row → Type 0)
    → (x.number + 1 < N.stations x.company → P (From (station x.company (x.number + 1))))
    → (N.stations x.company ≤ x.number + 1 → x.company + 1 < N.companies → P (From (station (x.company + 1) 0)))
    → (N.stations x.company ≤ x.number + 1 → N.companies ≤ x.company + 1 → P End)
    → P (row_after_from N x)
unfolding row_after_from choose
after_cases N x P same next end = go (ltb (x.number + 1) (N.stations x.company)) refl (ltb (x.company + 1) N.companies) refl
  where
    go : (t : Bool) → ltb (x.number + 1) (N.stations x.company) ≡ t → (u : Bool) → ltb (x.company + 1) N.companies ≡ u
        → P (choose t (From (station x.company (x.number + 1))) (choose u (From (station (x.company + 1) 0)) End))
    go true e u f = same (ltb-true _ _ e)
    go false e true f = next (ltb-false _ _ e) (ltb-true _ _ f)
    go false e false f = end (ltb-false _ _ e) (ltb-false _ _ f)

-- ---- each row is one that the book has

first_known : (b : List ℕ) → ValidBook b → Known (network b) (station 0 0)
first_known b v =
    let some = companies_some b v.laid_out in
    let many = stations_some b v.laid_out 0 (omega arith) in
    record { company = omega arith; number = omega arith }

pub due_first : (b : List ℕ) → Due b (first_row (book_check b))
unfolding Due first_row
due_first b = go (book_check b) refl
  where
    go : (j : Judged) → book_check b ≡ j → Due b (first_row j)
    go (Ok _) e = let v = (book_good b).0 e in (v, first_known b v)
    go (Err x) e = tt

pub due_after : (b : List ℕ) (row : Row) → Due b row → Due b (row_after (network b) row)
unfolding Due row_after
due_after b (Refusal x) d = tt
due_after b (From x) (v, k) =
    after_cases (network b) x (Due b)
    (λ h. (v, record { company = k.company; number = h }))
    (λ h l. (v, record { company = l; number = let some = stations_some b v.laid_out (x.company + 1) l in omega arith }))
    (λ h l. tt)
due_after b End d = tt

-- ---- there are at most 641 rows

-- how many rows may still come
unfoldable pub left : Row → ℕ
left (Refusal x) = 1
left (From x) = 641 - (40 * x.company + x.number)
left End = 0

pub left_less : (b : List ℕ) (row : Row) → Due b row → is_row row ≡ true → left (row_after (network b) row) < left row
unfolding Due row_after is_row left
left_less b (Refusal x) d t = omega arith
left_less b (From x) (v, k) t =
    let few = companies_few b v.laid_out in
    let many = stations_few b v.laid_out x.company k.company in
    after_cases (network b) x (λ r. left r < left (From x))
    (λ h. omega (arith, k.company))
    (λ h l. omega (arith, k.number))
    (λ h l. omega (arith, k.company, k.number))
left_less b End d t = absurd (true_not_false (sym t))

-- ---- together they are the whole list

abbrev rows_of : Network → ℕ → ℕ → List ℕ
rows_of N c i = lines_from N (station c i)

abbrev company_rows : Network → ℕ → List ℕ
company_rows N c = in_order (rows_of N c) (N.stations c)

-- what is put before a row
abbrev put_before : Network → Station → List ℕ
put_before N x = in_order (company_rows N) x.company ++ in_order (rows_of N x.company) x.number

-- what is put before the next station of the company, before the first of the next company, and where there is no next
before_next : (N : Network) (x : Station) → put_before N (station x.company (x.number + 1)) ≡ put_before N x ++ lines_from N x
before_next N x =
    ap (λ (l : List ℕ). in_order (company_rows N) x.company ++ l) (order_more (rows_of N x.company) x.number)
    ∙ sym (append_assoc (in_order (company_rows N) x.company) _ _)

before_end : (N : Network) (x : Station) → N.stations x.company ≡ x.number + 1 → in_order (company_rows N) (x.company + 1) ≡ put_before N x ++ lines_from N x
before_end N x e =
    order_more (company_rows N) x.company
    ∙ ap (λ (n : ℕ). in_order (company_rows N) x.company ++ in_order (rows_of N x.company) n) e
    ∙ before_next N x

before_first : (N : Network) (c : ℕ) → put_before N (station c 0) ≡ in_order (company_rows N) c
unfolding in_order
before_first N c = append-nil (in_order (company_rows N) c)

end_nothing : (N : Network) (n : ℕ) → rows_text N n End ≡ []
unfolding rows_text row_text row_after
end_nothing N zero = refl
end_nothing N (suc n) = end_nothing N n

-- what is put before a row, then that row and those after it, is all there is
abbrev Rest : List ℕ → ℕ → Station → Type 0
Rest b n x = put_before (network b) x ++ rows_text (network b) n (From x) ≡ in_order (company_rows (network b)) (network b).companies

rest : (b : List ℕ) → ValidBook b → (n : ℕ) (x : Station) → Known (network b) x → left (From x) ≤ n → Rest b n x
unfolding rows_text row_text row_after left
rest b v zero x k l = absurd (omega (arith, k.company, k.number, l, companies_few b v.laid_out, stations_few b v.laid_out x.company k.company))
rest b v (suc n) x k l =
    sym (append_assoc (put_before N x) (lines_from N x) (rows_text N n (row_after_from N x)))
    ∙ after_cases N x (λ r. (put_before N x ++ lines_from N x) ++ rows_text N n r ≡ in_order (company_rows N) N.companies)
    (λ h. from (station x.company (x.number + 1)) (before_next N x) (rest b v n _ (record { company = k.company; number = h }) (omega (arith, l))))
    (λ h c. from (station (x.company + 1) 0) (before_first N (x.company + 1) ∙ before_end N x (omega (arith, h, k.number)))
    (rest b v n _ (record { company = c; number = omega (arith, stations_some b v.laid_out (x.company + 1) c) })
    (omega (arith, l, stations_few b v.laid_out x.company k.company, k.number))))
    (λ h c. ap (λ (s : List ℕ). (put_before N x ++ lines_from N x) ++ s) (end_nothing N n)
    ∙ append-nil (put_before N x ++ lines_from N x)
    ∙ sym (before_end N x (omega (arith, h, k.number)))
    ∙ ap (in_order (company_rows N)) (omega (arith, c, k.company)))
  where
    N : Network
    N = network b

    -- what is put before the next row is what was put before this one, and this one
    from : (y : Station) → put_before N y ≡ put_before N x ++ lines_from N x → Rest b n y
        → (put_before N x ++ lines_from N x) ++ rows_text N n (From y) ≡ in_order (company_rows N) N.companies
    from y e h = ap (λ (s : List ℕ). s ++ rows_text N n (From y)) (sym e) ∙ h

only_refused : (N : Network) (x : why.Refusal) (n : ℕ) → 1 ≤ n → rows_text N n (Refusal x) ≡ refused_line x
unfolding rows_text row_text row_after
only_refused N x zero h = absurd (omega arith)
only_refused N x (suc n) h = ap (λ (s : List ℕ). refused_line x ++ s) (end_nothing N n) ∙ append-nil (refused_line x)

left_first : (n : ℕ) → 641 ≤ n → left (From (station 0 0)) ≤ n
unfolding left
left_first n h = h

-- the first 641 rows, or more, of any book are its lines: every pair's, or the refusal's
pub rows_are_lines : (b : List ℕ) (n : ℕ) → 641 ≤ n → rows_text (network b) n (first_row (book_check b)) ≡ lines_of (book_check b) (network b)
unfolding first_row lines_of in_order
rows_are_lines b n h = go (book_check b) refl
  where
    go : (j : Judged) → book_check b ≡ j → rows_text (network b) n (first_row j) ≡ lines_of j (network b)
    go (Ok _) e =
        let v = (book_good b).0 e in
        rest b v n (station 0 0) (first_known b v) (left_first n h) ∙ sym (all_as_put (network b))
    go (Err x) e = only_refused (network b) x n (omega arith)

-- "Input over 65,536 bytes is judged by its first 65,536."
pub rows_are_output : (input : List ℕ) → rows_text (network (take 65536 input)) 641 (first_row (book_check (take 65536 input))) ≡ lister_output input
unfolding lister_output
rows_are_output input = rows_are_lines (take 65536 input) 641 (omega arith)
