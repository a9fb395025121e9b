-- Both round trips, in the words of the definitions and then in the words of the contracts of `read` and `write`; and that each contract
-- allows one answer and one memory.
use Prim.Native.Nat.{ℕ, ◌≤◌}
use Rattle.outline.specs.Refusals.{Judged}
use Rattle.std.proofs.Common.{Ok, Err}
use mathlib.Core.Path.{◌≡◌, refl, sym, ap, ap₂, ◌∙◌}
use mathlib.Core.Bool.{Bool, true, false}
use mathlib.Core.List.{List}
use lib.ListN.{length, take}
use native.Mathlib.Omega.{arith}
use lib.Dec.{leb}
use borrow.Author.Tests.{leb-true, le-leb}
use Rattle.outline.specs.declared.Refusal.{Refusal}
use Rattle.outline.specs.declared.Refusal.TheVariants.{NoRoom}
use Rattle.outline.specs.Tests.{choose}
use Rattle.outline.specs.Book.{fares_of}
use Rattle.outline.specs.Valid.{ValidBook, Bytes}
use Rattle.outline.specs.Judging.{book_check, where_good}
use Rattle.outline.specs.Sheet.{fares_in, sheet_of}
use Rattle.outline.specs.SheetValid.{ValidSheet}
use Rattle.outline.specs.SheetJudging.{sheet_check}
use Rattle.outline.specs.Writing.{book_of}
use Rattle.outline.specs.Lending.{answered, filled, leaves, read_answer, read_leaves, write_answer, write_leaves, Written}
use Rattle.laws.proofs.Judging.{book_good}
use Rattle.laws.proofs.Sheet.{sheet_good}
use Rattle.filling.proofs.Filled.{filled_front, length-filled}
use Rattle.filling.proofs.Answers.{Answers, answers_wrote}
use Rattle.filling.proofs.Whole.{book_whole, sheet_whole}
use Rattle.roundtrip.proofs.Sheets as of_sheets
use Rattle.roundtrip.proofs.Books as of_books

-- Every valid sheet is written as a valid book, which reads back as the same sheet.
pub sheet_there_and_back : (s : List ℕ) → ValidSheet s → ValidBook (book_of (fares_in s)) × (sheet_of (fares_of (book_of (fares_in s))) ≡ s)
sheet_there_and_back s valid =
    let whole = sheet_whole s valid.laid_out in
    let same : fares_of (book_of (fares_in s)) ≡ fares_in s = of_books.fares_back (fares_in s) whole in
    (record { laid_out = of_books.book_laid_out (fares_in s) whole; fares = rw same valid.fares }, ap sheet_of same ∙ of_sheets.sheet_again s valid.laid_out)

-- Every valid book is read as a valid sheet, which is written as the same book, byte for byte.
pub book_there_and_back : (b : List ℕ) → ValidBook b → Bytes b → ValidSheet (sheet_of (fares_of b)) × (book_of (fares_in (sheet_of (fares_of b))) ≡ b)
book_there_and_back b valid bytes =
    let whole = book_whole b valid.laid_out in
    let same : fares_in (sheet_of (fares_of b)) ≡ fares_of b = of_sheets.fares_back (fares_of b) whole in
    (record { laid_out = of_sheets.sheet_laid_out (fares_of b) whole; fares = rw same valid.fares }, ap book_of same ∙ of_books.book_again b valid.laid_out bytes)

-- ---- in the words of the contracts

-- what the contracts of `read` and of `write` allow
pub record Reads (book lent : List ℕ) (r : Written) (after : List ℕ) : Type 0 where
  pub answer : r ≡ read_answer book lent
  pub memory : after ≡ read_leaves book lent

pub record Writes (sheet lent : List ℕ) (r : Written) (after : List ℕ) : Type 0 where
  pub answer : r ≡ write_answer sheet lent
  pub memory : after ≡ write_leaves sheet lent

-- The reader's contract allows one answer and one memory.
pub one_reading : {book lent after after' : List ℕ} {r r' : Written} → Reads book lent r after → Reads book lent r' after' → (r ≡ r') × (after ≡ after')
one_reading p q = (p.answer ∙ sym q.answer, p.memory ∙ sym q.memory)

-- The writer's contract allows one answer and one memory.
pub one_writing : {sheet lent after after' : List ℕ} {r r' : Written} → Writes sheet lent r after → Writes sheet lent r' after' → (r ≡ r') × (after ≡ after')
one_writing p q = (p.answer ∙ sym q.answer, p.memory ∙ sym q.memory)

-- a valid book read with room enough, and a valid sheet written with room enough
pub read_whole : (b lent : List ℕ) → ValidBook b → length (sheet_of (fares_of b)) ≤ length lent
    → Reads b lent (Ok (length (sheet_of (fares_of b)))) (filled (sheet_of (fares_of b)) lent)
unfolding read_answer read_leaves
read_whole b lent valid room =
    let w = answers_wrote (book_check b) (sheet_of (fares_of b)) lent ((book_good b).1 valid) room in
    record { answer = w.0; memory = w.1 }

pub write_whole : (s lent : List ℕ) → ValidSheet s → length (book_of (fares_in s)) ≤ length lent
    → Writes s lent (Ok (length (book_of (fares_in s)))) (filled (book_of (fares_in s)) lent)
unfolding write_answer write_leaves
write_whole s lent valid room =
    let w = answers_wrote (sheet_check s) (book_of (fares_in s)) lent ((sheet_good s).1 valid) room in
    record { answer = w.0; memory = w.1 }

-- Every valid sheet, written with room enough, is a valid book that reads back as the same sheet.
pub sheet_trip : (s book sheet book' sheet' : List ℕ) (r : Written) → ValidSheet s → length (book_of (fares_in s)) ≤ length book → length s ≤ length sheet
    → Writes s book (Ok (length (book_of (fares_in s)))) book' → Reads (take (length (book_of (fares_in s))) book') sheet r sheet'
    → ValidBook (take (length (book_of (fares_in s))) book') × (r ≡ Ok (length s)) × (sheet' ≡ filled s sheet)
sheet_trip s book sheet book' sheet' r valid room room' w q =
    let t = sheet_there_and_back s valid in
    let cut : take (length (book_of (fares_in s))) book' ≡ book_of (fares_in s) =
    ap (take (length (book_of (fares_in s)))) (one_writing w (write_whole s book valid room)).1 ∙ filled_front (book_of (fares_in s)) book in
    let one = one_reading (rw cut at q) (read_whole (book_of (fares_in s)) sheet t.0 (rw t.1 room')) in
    (rw cut t.0, one.0 ∙ ap (λ (x : List ℕ). Ok (length x)) t.1, one.1 ∙ ap (λ (x : List ℕ). filled x sheet) t.1)

-- Every valid book, read with room enough and written again, is the same book byte for byte; and what was read is a valid sheet.
pub book_trip : (b sheet book sheet' book' : List ℕ) (r : Written) → ValidBook b → Bytes b → length (sheet_of (fares_of b)) ≤ length sheet → length b ≤ length book
    → Reads b sheet (Ok (length (sheet_of (fares_of b)))) sheet' → Writes (take (length (sheet_of (fares_of b))) sheet') book r book'
    → ValidSheet (take (length (sheet_of (fares_of b))) sheet') × (r ≡ Ok (length b)) × (book' ≡ filled b book)
book_trip b sheet book sheet' book' r valid bytes room room' w q =
    let t = book_there_and_back b valid bytes in
    let cut : take (length (sheet_of (fares_of b))) sheet' ≡ sheet_of (fares_of b) =
    ap (take (length (sheet_of (fares_of b)))) (one_reading w (read_whole b sheet valid room)).1 ∙ filled_front (sheet_of (fares_of b)) sheet in
    let one = one_writing (rw cut at q) (write_whole (sheet_of (fares_of b)) book t.0 (rw t.1 room')) in
    (rw cut t.0, one.0 ∙ ap (λ (x : List ℕ). Ok (length x)) t.1, one.1 ∙ ap (λ (x : List ℕ). filled x book) t.1)

-- ---- what an answer tells

not_written : (j : Judged) (result lent : List ℕ) (x : Refusal) → answered j result lent ≡ Err x → where_good j (leb (length result) (length lent)) false ≡ false
unfolding answered choose where_good
not_written (Ok _) result lent x e = go (leb (length result) (length lent)) e
  where
    go : (t : Bool) → choose t (Ok (length result)) (Err NoRoom) ≡ Err x → t ≡ false
    go true e = absurd (let z : ◌≡◌ {A = ℕ} 0 1 = cc in omega arith)
    go false e = refl
not_written (Err y) result lent x e = refl

never_both : {x : Refusal} {n : ℕ} → ◌≡◌ {A = Written} (Err x) (Ok n) → ⊥
never_both e = let z : ◌≡◌ {A = ℕ} 0 1 = cc in omega arith

wrote_tells : (j : Judged) (result lent : List ℕ) (n : ℕ) → answered j result lent ≡ Ok n → (j ≡ Ok tt) × (length result ≤ length lent) × (n ≡ length result)
unfolding answered choose
wrote_tells (Ok _) result lent n e = let w = go (leb (length result) (length lent)) refl e in (refl, w.0, w.1)
  where
    go : (t : Bool) → leb (length result) (length lent) ≡ t → ◌≡◌ {A = Written} (choose t (Ok (length result)) (Err NoRoom)) (Ok n) → (length result ≤ length lent) × (n ≡ length result)
    go true p e = (leb-true _ _ p, cc)
    go false p e = absurd (never_both e)
wrote_tells (Err x) result lent n e = absurd (never_both e)

-- where something was written, it is the result, at the front
pub record Told (j : Judged) (result lent : List ℕ) (n : ℕ) (after : List ℕ) : Type 0 where
  pub good : j ≡ Ok tt
  pub room : length result ≤ length lent
  pub fits : n ≤ length after
  pub front : take n after ≡ result
  pub memory : after ≡ filled result lent

pub told_wrote : (j : Judged) (result lent after : List ℕ) (r : Written) (n : ℕ) → Answers j result lent r after → r ≡ Ok n → Told j result lent n after
unfolding leaves
told_wrote j result lent after r n a e =
    let w = wrote_tells j result lent n (sym a.0 ∙ e) in
    let memory : after ≡ filled result lent = a.1 ∙ ap (λ (x : Written). leaves x result lent) (sym a.0 ∙ e) in
    record {
      good = w.0;
      room = w.1;
      fits = omega (arith, ap length memory ∙ length-filled result lent w.1);
      front = ap₂ take w.2 memory ∙ filled_front result lent;
      memory = memory;
    }

-- where nothing was written, the lent list is as it was
pub told_not : (j : Judged) (result lent after : List ℕ) (r : Written) (x : Refusal) → Answers j result lent r after → r ≡ Err x
    → (where_good j (leb (length result) (length lent)) false ≡ false) × (after ≡ lent)
unfolding leaves
told_not j result lent after r x a e = (bad j (sym a.0 ∙ e), a.1 ∙ ap (λ (y : Written). leaves y result lent) (sym a.0 ∙ e))
  where
    bad : (k : Judged) → answered k result lent ≡ Err x → where_good k (leb (length result) (length lent)) false ≡ false
    bad k = not_written k result lent x

-- ---- the second half of each round trip

pub sheet_came : (s b lent after : List ℕ) (r : Written) → ValidSheet s → b ≡ book_of (fares_in s) → r ≡ read_answer b lent → after ≡ read_leaves b lent → Answers (Ok tt) s lent r after
unfolding read_answer read_leaves
sheet_came s b lent after r valid e p q =
    let t = sheet_there_and_back s valid in
    let good : book_check b ≡ Ok tt = ap book_check e ∙ (book_good _).1 t.0 in
    let same : sheet_of (fares_of b) ≡ s = ap (λ (x : List ℕ). sheet_of (fares_of x)) e ∙ t.1 in
    (p ∙ ap₂ (λ (j : Judged) (x : List ℕ). answered j x lent) good same, q ∙ ap₂ (λ (j : Judged) (x : List ℕ). leaves (answered j x lent) x lent) good same)

pub book_came : (b s lent after : List ℕ) (r : Written) → ValidBook b → Bytes b → s ≡ sheet_of (fares_of b) → r ≡ write_answer s lent → after ≡ write_leaves s lent → Answers (Ok tt) b lent r after
unfolding write_answer write_leaves
book_came b s lent after r valid bytes e p q =
    let t = book_there_and_back b valid bytes in
    let good : sheet_check s ≡ Ok tt = ap sheet_check e ∙ (sheet_good _).1 t.0 in
    let same : book_of (fares_in s) ≡ b = ap (λ (x : List ℕ). book_of (fares_in x)) e ∙ t.1 in
    (p ∙ ap₂ (λ (j : Judged) (x : List ℕ). answered j x lent) good same, q ∙ ap₂ (λ (j : Judged) (x : List ℕ). leaves (answered j x lent) x lent) good same)

-- what came back is there where there was room, and else nothing was written
pub came_not : (s lent after : List ℕ) (r : Written) (x : Refusal) → Answers (Ok tt) s lent r after → r ≡ Err x
    → (false ≡ leb (length s) (length lent)) × (after ≡ choose (leb (length s) (length lent)) (filled s lent) lent)
unfolding where_good choose
came_not s lent after r x a e = let t = told_not (Ok tt) s lent after r x a e in rw t.0 (refl, t.1)

pub came_back : (s lent after : List ℕ) (r : Written) (n : ℕ) → Answers (Ok tt) s lent r after → r ≡ Ok n
    → (true ≡ leb (length s) (length lent)) × (after ≡ choose (leb (length s) (length lent)) (filled s lent) lent)
unfolding choose
came_back s lent after r n a e = let t = told_wrote (Ok tt) s lent after r n a e in rw (le-leb _ _ t.room) (refl, t.memory)
