-- What is written by row after row: all that the first row and those after it put.
use Rattle.std.proofs.Common.{◌≡◌, ℕ, zero, suc, ◌+◌, true, false, List, [], ◌++◌, length, take, drop, refl, sym, ap, ◌∙◌, arith, append_assoc}
use Rattle.std.proofs.Math.Seq.{take-append_seam}
use Rattle.std.proofs.lemmas.List.{append-nil}
use Rattle.outline.specs.Book.{network}
use Rattle.outline.specs.Network.{Network}
use Rattle.outline.specs.Judging.{book_check}
use Rattle.outline.specs.Lister.{lines_of}
use Rattle.listing.specs.Putting.{put_at, Put}
use Rattle.rows.specs.declared.Row.{Row}
use Rattle.rows.specs.declared.Row.TheVariants.{Refusal, From, End}
use Rattle.rows.specs.Rows.{first_row, is_row, row_text, row_after, rows_text}
use Rattle.rows.proofs.Walk.{rows_are_lines}

-- what was written, and then what a row and those after it put
pub record Written (b : List ℕ) (row : Row) (done : List ℕ) : Type 0 where
  pub rows : ℕ
  pub all : (n : ℕ) → done ++ rows_text (network b) n row ≡ rows_text (network b) (rows + n) (first_row (book_check b))

pub nothing_written : (b : List ℕ) → Written b (first_row (book_check b)) []
nothing_written b = record {
  rows = 0;
  all = λ n. let e : n ≡ 0 + n = omega arith in ap (λ (m : ℕ). rows_text (network b) m (first_row (book_check b))) e;
}

pub row_written : (b : List ℕ) (row : Row) (done : List ℕ) → Written b row done → Written b (row_after (network b) row) (done ++ row_text (network b) row)
unfolding rows_text
row_written b row done w = record {
  rows = w.rows + 1;
  all = λ n.
      let e : w.rows + suc n ≡ (w.rows + 1) + n = omega arith in
      append_assoc done (row_text (network b) row) (rows_text (network b) n (row_after (network b) row))
      ∙ w.all (suc n)
      ∙ ap (λ (m : ℕ). rows_text (network b) m (first_row (book_check b))) e;
}

-- after the last row there is nothing
no_text : (N : Network) (n : ℕ) (row : Row) → is_row row ≡ false → rows_text N n row ≡ []
unfolding is_row rows_text row_text row_after
no_text N n (Refusal x) e = let no : true ≡ false = e in cc
no_text N n (From x) e = let no : true ≡ false = e in cc
no_text N zero End e = refl
no_text N (suc n) End e = no_text N n End e

pub all_written : (b : List ℕ) (row : Row) (done : List ℕ) → Written b row done → is_row row ≡ false → done ≡ lines_of (book_check b) (network b)
all_written b row done w e =
    sym (append-nil done)
    ∙ ap (λ (s : List ℕ). done ++ s) (sym (no_text (network b) 641 row e))
    ∙ w.all 641
    ∙ rows_are_lines b (w.rows + 641) (omega arith)

-- what was put at the front of a list stands there
pub put_first : (before text after : List ℕ) (end : ℕ) → Put before 0 text after end → take end after ≡ text
unfolding put_at
put_first before text after end p =
    let e : end ≡ length text = omega (arith, p.ends) in
    ap (take end) p.is ∙ ap (λ (n : ℕ). take n (text ++ drop (0 + length text) before)) e ∙ take-append_seam text (drop (0 + length text) before)
