-- What is asked of a pair, and the answer that its line tells.
use Prim.Native.Nat.{ℕ}
use Rattle.outline.specs.Refusals.{Judged}
use Rattle.std.proofs.Common.{Ok}
use mathlib.Core.Path.{◌≡◌, sym, subst, ◌∙◌}
use mathlib.Core.Bool.{false}
use mathlib.Core.List.{List}
use native.Mathlib.Omega.{arith}
use Rattle.outline.specs.declared.Station.{Station}
use Rattle.outline.specs.declared.Question.{Question}
use Rattle.outline.specs.declared.Answer.{Answer}
use Rattle.outline.specs.Network.{Network, same_station}
use Rattle.outline.specs.Book.{network}
use Rattle.outline.specs.Valid.{ValidBook}
use Rattle.outline.specs.Questions.{Known, question_check, AnswerTo, Answered, Asked}
use Rattle.outline.specs.Listing.{found_of}
use Rattle.laws.proofs.Firsts.{then_next}
use Rattle.laws.proofs.Judging.{book_good, other_station_lem}
use Rattle.cheapest.proofs.Asking.{question_good}
use Rattle.cheapest.proofs.Earlier.{one_answer}
use Rattle.cheapest.proofs.Twin.{found_is, limit_within}
use Rattle.outline.specs.Lister.{pair_of}

-- a pair of different stations is a good question
pub pair_good : (N : Network) (x y : Station) → Known N x → Known N y → same_station x y ≡ false → question_check N (pair_of x y) ≡ Ok tt
pair_good N x y from to f = (question_good N (pair_of x y)).1 (record {
  from = from;
  to = to;
  different = (other_station_lem x y).0 f;
  limit = record { from = omega arith; to = omega arith };
})

-- its answer is the one that is computed
pub pair_answer : (b : List ℕ) (q : Question) (r : Answer) → ValidBook b → question_check (network b) q ≡ Ok tt → Answered (network b) q r → r ≡ found_of (network b) q
unfolding Asked AnswerTo
pair_answer b q r v g a =
    let e = then_next _ _ ((book_good b).1 v) ∙ g in
    one_answer b q r (found_of (network b) q)
    (subst (λ (j : Judged). AnswerTo j (network b) q r) (sym e) a)
    (subst (λ (j : Judged). AnswerTo j (network b) q (found_of (network b) q)) (sym e) (found_is (network b) q (limit_within (network b) q g).to))
