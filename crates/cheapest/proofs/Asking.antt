-- Which question is good, and which refusal the first one named is; what an answer to a question says.
use Prim.Native.Nat.{ℕ}
use Rattle.std.proofs.Common.{Ok, Err}
use mathlib.Core.Path.{◌≡◌, refl, sym, ap, subst, ◌∙◌}
use mathlib.Core.Bool.{true, not}
use mathlib.Core.List.{List}
use mathlib.Core.Logic.{inl, inr, ◌↔◌}
use native.Mathlib.Omega.{arith}
use borrow.Author.Tests.{ltb-true, lt-ltb, not-true}
use Rattle.outline.specs.declared.Station.{Station}
use Rattle.outline.specs.declared.Leg.{Leg}
use Rattle.outline.specs.declared.Question.{Question}
use Rattle.outline.specs.declared.Answer.{Answer}
use Rattle.outline.specs.declared.Refusal.{Refusal}
use Rattle.outline.specs.declared.Refusal.TheVariants.{UnknownStation, SameStation, BadLimit, NoRoute}
use Rattle.outline.specs.Numbers.{most_rides}
use Rattle.outline.specs.Tests.{within, Within}
use Rattle.outline.specs.Refusals.{number_of, place_of, Judged}
use Rattle.outline.specs.Network.{Network, same_station}
use Rattle.outline.specs.Book.{network}
use Rattle.outline.specs.Judging.{book_check}
use Rattle.outline.specs.Valid.{ValidBook}
use Rattle.outline.specs.Price.{answer_with, answer_of, refused_answer}
use Rattle.outline.specs.Questions.{Joins, Answered, Known, GoodQuestion, known, question_check, AnswerTo, Asked}
use Rattle.laws.proofs.Tests.{both_true, both_holds, within_true, within_holds}
use Rattle.laws.proofs.Firsts.{refused_not_good, demand_good, demand_holds, then_next, then_refused}
use Rattle.laws.proofs.Judging.{other_station_lem, book_good}
use Rattle.laws.proofs.Named.{names_good, names_demand, demand_passes, demand_stays}

-- ---- a question

known_is : (N : Network) (x : Station) → (known N x ≡ true) ↔ Known N x
unfolding known
known_is N x = (
  λ e. let p = both_true _ _ e in record { company = ltb-true _ _ p.0; number = ltb-true _ _ p.1 },
  λ k. both_holds _ _ (lt-ltb _ _ k.company) (lt-ltb _ _ k.number),
)

pub different_is : (x y : Station) → (not (same_station x y) ≡ true) ↔ (x ≡ y → ⊥)
different_is x y = (
  λ t. (other_station_lem x y).0 (not-true _ t),
  λ n. ap not ((other_station_lem x y).1 n),
)

limit_is : (n : ℕ) → (within 1 n most_rides ≡ true) ↔ Within 1 n most_rides
limit_is n = (within_true 1 n most_rides, within_holds 1 n most_rides)

module _ (N : Network) (q : Question) where
  pub question_good : (question_check N q ≡ Ok tt) ↔ GoodQuestion N q
  unfolding question_check
  question_good = (tells, holds)
    where
      tells : question_check N q ≡ Ok tt → GoodQuestion N q
      tells e =
          let a = demand_good _ _ _ e in
          let b = demand_good _ _ _ a.1 in
          let c = demand_good _ _ _ b.1 in
          let d = demand_good _ _ _ c.1 in
          record { from = (known_is N q.from).0 a.0; to = (known_is N q.to).0 b.0; different = (different_is q.from q.to).0 c.0; limit = (limit_is q.limit).0 d.0 }

      holds : GoodQuestion N q → question_check N q ≡ Ok tt
      holds g =
          demand_holds _ _ _ ((known_is N q.from).1 g.from)
          ∙ demand_holds _ _ _ ((known_is N q.to).1 g.to)
          ∙ demand_holds _ _ _ ((different_is q.from q.to).1 g.different)
          ∙ demand_holds _ _ _ ((limit_is q.limit).1 g.limit)

  -- 9, "from before to"
  pub unknown_from : (question_check N q ≡ Err (UnknownStation 0)) ↔ (Known N q.from → ⊥)
  unfolding question_check
  unknown_from =
      demand_stays _ _ _
      (λ r. names_demand (λ x. x ≡ UnknownStation 0 → ⊥) _ _ _ (λ e. let z = ap place_of e in omega arith)
      (names_demand (λ x. x ≡ UnknownStation 0 → ⊥) _ _ _ (λ e. let z = ap number_of e in omega arith)
      (names_demand (λ x. x ≡ UnknownStation 0 → ⊥) _ _ _ (λ e. let z = ap number_of e in omega arith) (names_good _)))
      (UnknownStation 0) r refl)
      (known_is N q.from)

  pub unknown_to : (question_check N q ≡ Err (UnknownStation 1)) ↔ (Known N q.from × (Known N q.to → ⊥))
  unfolding question_check
  unknown_to =
      let first = demand_passes _ (UnknownStation 0) _ (UnknownStation 1) (λ e. let z = ap place_of e in omega arith) (known_is N q.from) in
      let second = demand_stays _ (UnknownStation 1) _
      (λ r. names_demand (λ x. x ≡ UnknownStation 1 → ⊥) _ SameStation _ (λ e. let z = ap number_of e in omega arith)
      (names_demand (λ x. x ≡ UnknownStation 1 → ⊥) _ BadLimit _ (λ e. let z = ap number_of e in omega arith) (names_good _))
      (UnknownStation 1) r refl)
      (known_is N q.to) in
      (λ e. let a = first.0 e in (a.0, second.0 a.1), λ h. first.1 (h.0, second.1 h.1))

  -- 10
  pub same_stations : (question_check N q ≡ Err SameStation) ↔ (Known N q.from × Known N q.to × ((q.from ≡ q.to → ⊥) → ⊥))
  unfolding question_check
  same_stations =
      let first = demand_passes _ (UnknownStation 0) _ SameStation (λ e. let z = ap number_of e in omega arith) (known_is N q.from) in
      let second = demand_passes _ (UnknownStation 1) _ SameStation (λ e. let z = ap number_of e in omega arith) (known_is N q.to) in
      let third = demand_stays _ SameStation _
      (λ r. names_demand (λ x. x ≡ SameStation → ⊥) _ BadLimit _ (λ e. let z = ap number_of e in omega arith) (names_good _) SameStation r refl)
      (different_is q.from q.to) in
      (λ e. let a = first.0 e in let b = second.0 a.1 in (a.0, b.0, third.0 b.1), λ h. first.1 (h.0, second.1 (h.1, third.1 h.2)))

  -- 11
  pub bad_limit : (question_check N q ≡ Err BadLimit) ↔ (Known N q.from × Known N q.to × (q.from ≡ q.to → ⊥) × (Within 1 q.limit most_rides → ⊥))
  unfolding question_check
  bad_limit =
      let first = demand_passes _ (UnknownStation 0) _ BadLimit (λ e. let z = ap number_of e in omega arith) (known_is N q.from) in
      let second = demand_passes _ (UnknownStation 1) _ BadLimit (λ e. let z = ap number_of e in omega arith) (known_is N q.to) in
      let third = demand_passes _ SameStation _ BadLimit (λ e. let z = ap number_of e in omega arith) (different_is q.from q.to) in
      let fourth = demand_stays _ BadLimit _ (λ r. names_good (λ x. x ≡ BadLimit → ⊥) BadLimit r refl) (limit_is q.limit) in (
        λ e. let a = first.0 e in let b = second.0 a.1 in let c = third.0 b.1 in (a.0, b.0, c.0, fourth.0 c.1),
        λ h. first.1 (h.0, second.1 (h.1, third.1 (h.2, fourth.1 h.3))),
      )

-- ---- what the answer says

-- the book's refusal comes first, then the question's
pub refused_book : (b : List ℕ) (q : Question) (r : Answer) (x : Refusal) → Asked b q r → book_check b ≡ Err x → r ≡ refused_answer x
unfolding Asked AnswerTo
refused_book b q r x a e = subst (λ (j : Judged). AnswerTo j (network b) q r) (then_refused _ _ x e) a

pub refused_question : (b : List ℕ) (q : Question) (r : Answer) (x : Refusal) → Asked b q r → ValidBook b → question_check (network b) q ≡ Err x → r ≡ refused_answer x
unfolding Asked AnswerTo
refused_question b q r x a v e = subst (λ (j : Judged). AnswerTo j (network b) q r) (then_next _ _ ((book_good b).1 v) ∙ e) a

pub answered : (b : List ℕ) (q : Question) (r : Answer) → Asked b q r → ValidBook b → GoodQuestion (network b) q → Answered (network b) q r
unfolding Asked AnswerTo
answered b q r a v g = subst (λ (j : Judged). AnswerTo j (network b) q r) (then_next _ _ ((book_good b).1 v) ∙ (question_good (network b) q).1 g) a

-- 12 exactly where no route exists
pub no_route : (N : Network) (q : Question) (r : Answer) → Answered N q r → (r.judged ≡ Err NoRoute) ↔ ((t : List Leg) → Joins N q t → ⊥)
unfolding answer_of answer_with refused_answer
no_route N q r (inl f) = (λ e. absurd (refused_not_good (sym e ∙ ap (λ (a : Answer). a.judged) f.is)), λ n. absurd (n f.route f.cheapest.joins))
no_route N q r (inr n) = (λ e. n.none, λ h. ap (λ (a : Answer). a.judged) n.is)
