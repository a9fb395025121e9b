-- The order of routes: reflexive, transitive, total, and no two routes are each no later than the other. So the cheapest route is one, and
-- a question has one answer.
use Prim.Native.Nat.{ℕ}
use Rattle.std.proofs.Common.{Ok, Err}
use mathlib.Core.Path.{◌≡◌, refl, sym, ap, ◌∙◌}
use mathlib.Core.Logic.{◌⊎◌, inl, inr}
use mathlib.Core.List.{List, [], ◌∷◌}
use native.Mathlib.Omega.{arith}
use lib.ListN.{length}
use Rattle.outline.specs.declared.Leg.{Leg}
use Rattle.outline.specs.declared.Question.{Question}
use Rattle.outline.specs.declared.Answer.{Answer}
use Rattle.outline.specs.Refusals.{◌and_then◌, Judged}
use Rattle.outline.specs.Lexical.{LexLe}
use Rattle.outline.specs.Network.{Network}
use Rattle.outline.specs.Book.{network}
use Rattle.outline.specs.Judging.{book_check}
use Rattle.outline.specs.Routes.{bytes_of}
use Rattle.outline.specs.Price.{fare_of, answer_of}
use Rattle.outline.specs.Questions.{NoLater, Cheapest, Answered, AnswerTo, Asked, question_check}
use Rattle.laws.proofs.Lexical.{lex_same, lex_then, lex_only, lex_total}

same_ride : (p q : Leg) → p.company ≡ q.company → p.boarding ≡ q.boarding → p.alighting ≡ q.alighting → p ≡ q
same_ride p q a b c = λ i. record { company = a i; boarding = b i; alighting = c i }

-- a route's bytes tell its rides
pub bytes_only : (s t : List Leg) → bytes_of s ≡ bytes_of t → s ≡ t
unfolding bytes_of
bytes_only [] [] e = refl
bytes_only [] (q ∷ t) e = absurd (let z : ◌≡◌ {A = ℕ} 0 1 = cc in omega arith)
bytes_only (p ∷ s) [] e = absurd (let z : ◌≡◌ {A = ℕ} 0 1 = cc in omega arith)
bytes_only (p ∷ s) (q ∷ t) e = let r = bytes_only s t (cc) in let h = same_ride p q (cc) (cc) (cc) in cc

-- the order is that of one list of numbers: the fare, the number of rides, the bytes
abbrev rank : Network → List Leg → List ℕ
rank N s = fare_of N s ∷ length s ∷ bytes_of s

pub earlier_same : (N : Network) (s : List Leg) → NoLater N s s
unfolding LexLe
earlier_same N s = lex_same (rank N s)

pub earlier_then : (N : Network) (s t v : List Leg) → NoLater N s t → NoLater N t v → NoLater N s v
unfolding LexLe
earlier_then N s t v a b = lex_then (rank N s) (rank N t) (rank N v) a b

pub earlier_only : (N : Network) (s t : List Leg) → NoLater N s t → NoLater N t s → s ≡ t
unfolding LexLe
earlier_only N s t a b = let e = lex_only (rank N s) (rank N t) a b in bytes_only s t (cc)

pub earlier_total : (N : Network) (s t : List Leg) → NoLater N s t ⊎ NoLater N t s
unfolding LexLe
earlier_total N s t = lex_total (rank N s) (rank N t)

pub one_cheapest : (N : Network) (q : Question) (s t : List Leg) → Cheapest N q s → Cheapest N q t → s ≡ t
one_cheapest N q s t a b = earlier_only N s t (a.first t b.joins) (b.first s a.joins)

-- what is found is one
pub one_found : (N : Network) (q : Question) (r p : Answer) → Answered N q r → Answered N q p → r ≡ p
one_found N q r p (inl a) (inl b) = a.is ∙ ap (answer_of N) (one_cheapest N q a.route b.route a.cheapest b.cheapest) ∙ sym b.is
one_found N q r p (inl a) (inr b) = absurd (b.none a.route a.cheapest.joins)
one_found N q r p (inr a) (inl b) = absurd (a.none b.route b.cheapest.joins)
one_found N q r p (inr a) (inr b) = a.is ∙ sym b.is

-- a question has one answer
pub one_answer : (b : List ℕ) (q : Question) (r p : Answer) → Asked b q r → Asked b q p → r ≡ p
unfolding Asked AnswerTo
one_answer b q r p = go (book_check b and_then question_check (network b) q)
  where
    go : (a : Judged) → AnswerTo a (network b) q r → AnswerTo a (network b) q p → r ≡ p
    go (Ok _) h k = one_found (network b) q r p h k
    go (Err x) h k = h ∙ sym k
