-- No part of a word runs into another: from every word that the C face returns, its bits give back what was written, the refusal's number
-- and its place.
use Prim.Native.Nat.{ℕ, ◌<◌}
use Rattle.std.proofs.Common.{Ok, Err}
use mathlib.Core.Path.{◌≡◌, refl}
use mathlib.Core.Bool.{Bool, true, false}
use mathlib.Core.List.{List, []}
use native.Mathlib.Omega.{arith}
use lib.ListN.{length}
use lib.Dec.{leb, ltb}
use borrow.Author.Tests.{ltb-true}
use Rattle.outline.specs.declared.Refusal.{Refusal}
use Rattle.outline.specs.declared.Refusal.TheVariants.{WrongLength, UnknownLayout, OutsideLimits, BadContents, BadStations, BadEntry, BadLink, BadRule, UnknownStation, SameStation, BadLimit, NoRoute, NoRoom, BadRide}
use Rattle.outline.specs.declared.Question.{Question}
use Rattle.outline.specs.declared.Answer.{Answer}
use Rattle.outline.specs.Tests.{choose}
use Rattle.outline.specs.Refusals.{number_of, place_of, Judged}
use Rattle.outline.specs.Book.{company_count, offset_of, body_of, fares_of}
use Rattle.outline.specs.Judging.{book_check, where_good, company_body, company_offset}
use Rattle.outline.specs.Sheet.{fares_in, sheet_of}
use Rattle.outline.specs.SheetJudging.{sheet_check}
use Rattle.outline.specs.Writing.{book_of}
use Rattle.outline.specs.Lending.{count_of, refusal_of, refusal_place_of, answered, read_answer, write_answer, Written}
use Rattle.outline.specs.Price.{price_of}
use Rattle.outline.specs.Questions.{Asked}
use Rattle.laws.proofs.Judging.{book_good}
use Rattle.laws.proofs.Reading.{small_product, company_long}
use Rattle.laws.proofs.Sheet.{sheet_good}
use Rattle.filling.proofs.Whole.{book_whole, sheet_whole, longest_sheet, longest_book}
use Rattle.telling.specs.Word.{most_place, refused_word, part_word, written_word}
use Rattle.telling.specs.Answers.{answer_numbers, answer_written}
use Rattle.telling.proofs.Parts.{Parts, word_parts}
use Rattle.telling.proofs.Putting.{numbers_length}
use Rattle.fitting.proofs.Places.{offset_small, book_places, sheet_places}
use Rattle.fitting.proofs.Telling.{Tellable, price_tellable, asked_tellable, written_small}

number_small : (x : Refusal) → number_of x < 256
number_small WrongLength = omega arith
number_small UnknownLayout = omega arith
number_small OutsideLimits = omega arith
number_small (BadContents k) = omega arith
number_small (BadStations k) = omega arith
number_small (BadEntry k) = omega arith
number_small (BadLink k) = omega arith
number_small (BadRule k) = omega arith
number_small (UnknownStation k) = omega arith
number_small SameStation = omega arith
number_small BadLimit = omega arith
number_small NoRoute = omega arith
number_small NoRoom = omega arith
number_small (BadRide k) = omega arith

-- the word of w gives back its three parts
abbrev pub Told : Written → Type 0
Told w = Parts (written_word w) (count_of w) (refusal_of w) (refusal_place_of w)

told : (w : Written) → count_of w < 4294967296 → refusal_place_of w < most_place → Told w
told (Ok n) c p = word_parts n 0 0 c (omega arith) p
told (Err x) c p = word_parts 0 (number_of x) (place_of x) c (number_small x) p

count_small : (j : Judged) (result lent : List ℕ) → (j ≡ Ok tt → length result < 4294967296) → count_of (answered j result lent) < 4294967296
unfolding answered choose
count_small (Ok _) result lent h = room (leb (length result) (length lent))
  where
    room : (t : Bool) → count_of (choose t (Ok (length result)) (Err NoRoom)) < 4294967296
    room true = h refl
    room false = omega arith
count_small (Err x) result lent h = omega arith

pub check_told : (b : List ℕ) (x : Refusal) → book_check b ≡ Err x → Parts (refused_word x) 0 (number_of x) (place_of x)
check_told b x e = word_parts 0 (number_of x) (place_of x) (omega arith) (number_small x) (book_places b x e)

-- of a company's body the length and the offset
pub company_told : (b : List ℕ) (c : ℕ) → Parts (part_word (company_offset b c) (length (company_body b c))) (length (company_body b c)) 0 (company_offset b c)
unfolding company_body company_offset where_good choose
company_told b c = go (book_check b) refl (ltb c (company_count b)) refl
  where
    go : (j : Judged) → book_check b ≡ j → (t : Bool) → ltb c (company_count b) ≡ t
        → Parts
        (part_word (where_good j (choose t (offset_of b c) 0) 0) (length (where_good j (choose t (body_of b c) []) [])))
        (length (where_good j (choose t (body_of b c) []) []))
        0
        (where_good j (choose t (offset_of b c) 0) 0)
    go (Ok _) g true h =
        let laid = ((book_good b).0 g).laid_out in
        let here : c < company_count b = ltb-true _ _ h in
        let few = (laid.companies c here).stations.to in
        let square = small_product 40 few few in
        let from = offset_small b laid c here in
        let most = laid.header.companies.to in
        let long = company_long b laid c here in
        word_parts (length (body_of b c)) 0 (offset_of b c) (omega arith) (omega arith) (omega arith)
    go (Ok _) g false h = word_parts 0 0 0 (omega arith) (omega arith) (omega arith)
    go (Err x) g t h = word_parts 0 0 0 (omega arith) (omega arith) (omega arith)

pub read_told : (b lent : List ℕ) → Told (read_answer b lent)
unfolding read_answer
read_told b lent =
    told (answered (book_check b) (sheet_of (fares_of b)) lent)
    (count_small _ _ lent (λ g. let long = longest_sheet (fares_of b) (book_whole b ((book_good b).0 g).laid_out) in omega arith))
    (written_small _ _ lent (book_places b))

pub write_told : (s lent : List ℕ) → Told (write_answer s lent)
unfolding write_answer
write_told s lent =
    told (answered (sheet_check s) (book_of (fares_in s)) lent)
    (count_small _ _ lent (λ g. let long = longest_book (fares_in s) (sheet_whole s ((sheet_good s).0 g).laid_out) in omega arith))
    (written_small _ _ lent (sheet_places s))

answer_told : (a : Answer) (lent : List ℕ) → Tellable a → Told (answer_written a lent)
answer_told a lent t =
    told (answered a.judged (answer_numbers a) lent)
    (count_small _ _ lent (λ g. omega (arith, numbers_length a t.four)))
    (written_small _ _ lent t.small)

pub price_told : (b route lent : List ℕ) → Told (answer_written (price_of b route) lent)
price_told b route lent = answer_told _ lent (price_tellable b route)

pub cheapest_told : (b : List ℕ) (q : Question) (a : Answer) (lent : List ℕ) → Asked b q a → Told (answer_written a lent)
cheapest_told b q a lent h = answer_told a lent (asked_tellable b q a h)
