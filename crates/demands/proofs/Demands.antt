-- The three demands, over the definitions of crates/outline/specs and the contracts that stand beside the code. `Post` is a contract: of
-- the arguments, the answer and the lent memory at the end. The prover shows that every call ends and meets it, whatever was lent: none of
-- these operations asks anything of its caller. That each contract allows one answer is proved at the end.
use Prim.Native.Nat.{ℕ}
use Rattle.outline.specs.Refusals.{Judged}
use Rattle.std.proofs.Common.{Ok, Err}
use mathlib.Core.Path.{◌≡◌, sym, ap, ◌∙◌}
use mathlib.Core.Logic.{◌↔◌}
use mathlib.Core.Bool.{Bool}
use mathlib.Core.List.{List}
use Rattle.outline.specs.declared.Leg.{Leg}
use Rattle.outline.specs.declared.Question.{Question}
use Rattle.outline.specs.Tests.{choose}
use Rattle.outline.specs.declared.Answer.{Answer}
use Rattle.outline.specs.declared.Refusal.{Refusal}
use Rattle.outline.specs.declared.Refusal.TheVariants.{NoRoute}
use Rattle.outline.specs.Book.{fares_of, network}
use Rattle.outline.specs.Sheet.{fares_in, sheet_of}
use Rattle.outline.specs.SheetValid.{ValidSheet}
use Rattle.outline.specs.Writing.{book_of}
use Rattle.outline.specs.Lending.{filled, leaves, read_leaves, write_leaves, Written}
use Rattle.outline.specs.Valid.{ValidBook, Bytes}
use Rattle.outline.specs.Judging.{book_check}
use Rattle.outline.specs.Price.{Priced, refused_answer}
use Rattle.outline.specs.Questions.{Joins, Found, Answered, GoodQuestion, question_check}
use Rattle.laws.proofs.Judging.{book_good}
use Rattle.choice.proofs.Priced.{priced_is}
use Rattle.choice.proofs.Prices as prices
use Rattle.roundtrip.proofs.Trips.{sheet_there_and_back, book_there_and_back}
use Rattle.cheapest.proofs.Earlier.{one_answer}
use Rattle.cheapest.proofs.Asking.{refused_book, refused_question, answered, no_route}
use Rattle.book.proofs.judge.Reads as judge
use Rattle.price.proofs.price.Reads as price
use Rattle.search.proofs.cheapest.Reads as cheapest
use Rattle.sheet.proofs.read.Reads as read
use Rattle.sheet.proofs.write.Reads as write
use Rattle.sheet.proofs.trips.sheet_returns.Reads as sheet_returns
use Rattle.sheet.proofs.trips.book_returns.Reads as book_returns

-- ---- 1. Every book, sheet, route and question is answered, or refused with its number and place exactly when the outline says so.

-- a book is good exactly where it is valid; laws/proofs/Order says for each refusal which books have it
pub good_book : (κs : _) (a : _) (r : Judged) (e : _) → judge.Post κs a r e → (r ≡ Ok tt) ↔ ValidBook a.0.now
good_book κs a r e p = (λ g. (book_good a.0.now).0 (sym p ∙ g), λ v. p ∙ (book_good a.0.now).1 v)

-- a refusal changes no lent memory
pub refused_read : (κs : _) (a : _) (r : Written) (e : _) (x : Refusal) → read.Post κs a r e → r ≡ Err x → e.1.0.now ≡ a.1.0.now
unfolding read_leaves leaves
refused_read κs a r e x p n = p.1 ∙ ap (λ (w : Written). leaves w (sheet_of (fares_of a.0.now)) a.1.0.now) (sym p.0 ∙ n)

pub refused_write : (κs : _) (a : _) (r : Written) (e : _) (x : Refusal) → write.Post κs a r e → r ≡ Err x → e.1.0.now ≡ a.1.0.now
unfolding write_leaves leaves
refused_write κs a r e x p n = p.1 ∙ ap (λ (w : Written). leaves w (book_of (fares_in a.0.now)) a.1.0.now) (sym p.0 ∙ n)

-- a question is refused as its book is, or as it is itself; cheapest/proofs/Asking says for each refusal which questions have it
pub refused_for_the_book : (κs : _) (a : _) (r : Answer) (e : _) (x : Refusal) → cheapest.Post κs a r e → book_check a.0.now ≡ Err x → r ≡ refused_answer x
refused_for_the_book κs a r e x p h = refused_book a.0.now a.1.0 r x p h

pub refused_itself : (κs : _) (a : _) (r : Answer) (e : _) (x : Refusal) → cheapest.Post κs a r e → ValidBook a.0.now
    → question_check (network a.0.now) a.1.0 ≡ Err x → r ≡ refused_answer x
refused_itself κs a r e x p v h = refused_question a.0.now a.1.0 r x p v h

-- ---- 2. A given route's fare and its choice of discounts are the outline's.

pub route_priced : (κs : _) (a : _) (r : Answer) (e : _) → price.Post κs a r e → prices.Answered a.0.now a.1.0.now r
route_priced κs a r e p = (prices.price_is a.0.now a.1.0.now r).0 p

-- Every valid sheet is written as a book that reads back as the same sheet; every valid book, read and written again, is the same book.
-- roundtrip/proofs/Trips says the same of the lent memory, where there is room.
pub sheet_back : (s : List ℕ) → ValidSheet s → ValidBook (book_of (fares_in s)) × (sheet_of (fares_of (book_of (fares_in s))) ≡ s)
sheet_back = sheet_there_and_back

pub book_back : (b : List ℕ) → ValidBook b → Bytes b → ValidSheet (sheet_of (fares_of b)) × (book_of (fares_in (sheet_of (fares_of b))) ≡ b)
book_back = book_there_and_back

-- ---- 3. For a valid book, two stations and a limit of 1 to 4 rides: the answer is admissible, joins the two, costs what is stated with its
-- best discounts; nothing admissible costs less; among equals it is the first in the outline's order.

pub cheapest_answered : (κs : _) (a : _) (r : Answer) (e : _) → cheapest.Post κs a r e → ValidBook a.0.now → GoodQuestion (network a.0.now) a.1.0
    → Answered (network a.0.now) a.1.0 r
cheapest_answered κs a r e p v g = answered a.0.now a.1.0 r p v g

-- what was found is the price of its route, by the one best selection of its runs
pub best_discounts : (b : List ℕ) (q : Question) (r : Answer) (f : Found (network b) q r) → Priced (network b) f.route r
best_discounts b q r f = (priced_is (network b) f.route r).1 f.is

-- "No route" exactly when none exists.
pub no_route_exactly : (κs : _) (a : _) (r : Answer) (e : _) → cheapest.Post κs a r e → ValidBook a.0.now → GoodQuestion (network a.0.now) a.1.0
    → (r.judged ≡ Err NoRoute) ↔ ((t : List Leg) → Joins (network a.0.now) a.1.0 t → ⊥)
no_route_exactly κs a r e p v g = no_route (network a.0.now) a.1.0 r (cheapest_answered κs a r e p v g)

-- ---- one answer, and one memory; book/proofs/Unique says it of the operations on a book

pub one_cheapest : (κs : _) (a : _) (r s : Answer) (e e' : _) → cheapest.Post κs a r e → cheapest.Post κs a s e' → r ≡ s
one_cheapest κs a r s e e' p q = one_answer a.0.now a.1.0 r s p q

pub one_price : (κs : _) (a : _) (r s : Answer) (e e' : _) → price.Post κs a r e → price.Post κs a s e' → r ≡ s
one_price κs a r s e e' p q = p ∙ sym q

pub one_reading : (κs : _) (a : _) (r s : Written) (e e' : _) → read.Post κs a r e → read.Post κs a s e' → (r ≡ s) × (e.1.0.now ≡ e'.1.0.now)
one_reading κs a r s e e' p q = (p.0 ∙ sym q.0, p.1 ∙ sym q.1)

pub one_writing : (κs : _) (a : _) (r s : Written) (e e' : _) → write.Post κs a r e → write.Post κs a s e' → (r ≡ s) × (e.1.0.now ≡ e'.1.0.now)
one_writing κs a r s e e' p q = (p.0 ∙ sym q.0, p.1 ∙ sym q.1)

-- the round trips that are run
pub one_sheet_return : (κs : _) (a : _) (r s : Bool) (e e' : _) → sheet_returns.Post κs a r e → sheet_returns.Post κs a s e'
    → (r ≡ s) × (e.1.0.now ≡ e'.1.0.now) × (e.1.1.0.now ≡ e'.1.1.0.now)
one_sheet_return κs a r s e e' p q =
    let same = p.0 ∙ sym q.0 in
    (same, p.1.0 ∙ sym q.1.0, p.1.1 ∙ ap (λ (b : Bool). choose b (filled a.0.now a.1.1.0.now) a.1.1.0.now) same ∙ sym q.1.1)

pub one_book_return : (κs : _) (a : _) (r s : Bool) (e e' : _) → book_returns.Post κs a r e → book_returns.Post κs a s e'
    → (r ≡ s) × (e.1.0.now ≡ e'.1.0.now) × (e.1.1.0.now ≡ e'.1.1.0.now)
one_book_return κs a r s e e' p q =
    let same = p.0 ∙ sym q.0 in
    (same, p.1.0 ∙ sym q.1.0, p.1.1 ∙ ap (λ (b : Bool). choose b (filled a.0.now a.1.1.0.now) a.1.1.0.now) same ∙ sym q.1.1)
