-- What the C face may take for granted of an answer: four places, and a refusal whose place fits the word.
use Prim.Native.Nat.{ℕ, ◌<◌}
use Rattle.outline.specs.Refusals.{Judged}
use Rattle.std.proofs.Common.{Ok, Err}
use mathlib.Core.Path.{◌≡◌, refl}
use mathlib.Core.Bool.{Bool, true, false}
use mathlib.Core.List.{List}
use mathlib.Core.Logic.{inl, inr}
use native.Mathlib.Omega.{arith}
use lib.ListN.{length}
use lib.Dec.{leb}
use Rattle.outline.specs.declared.Refusal.{Refusal}
use Rattle.outline.specs.declared.Refusal.TheVariants.{NoRoute, NoRoom}
use Rattle.outline.specs.declared.Leg.{Leg}
use Rattle.outline.specs.declared.Question.{Question}
use Rattle.outline.specs.declared.Answer.{Answer}
use Rattle.outline.specs.Tests.{choose}
use Rattle.outline.specs.Network.{Network}
use Rattle.outline.specs.Book.{network}
use Rattle.outline.specs.Routes.{route_of}
use Rattle.outline.specs.Price.{answer_with, answer_of, refused_answer, answer_to, price_of}
use Rattle.outline.specs.Questions.{Answered, AnswerTo, Asked}
use Rattle.laws.proofs.Named.{Names, names_good, names_then, same_refusal}
use Rattle.outline.specs.Lending.{refusal_place_of, answered}
use Rattle.telling.specs.Word.{most_place}
use Rattle.fitting.proofs.Places.{Small, book_places, route_places, question_places}

pub record Tellable (a : Answer) : Type 0 where
  pub four : length a.places ≡ 4
  pub small : Names Small a.judged

refused_tellable : (x : Refusal) → Small x → Tellable (refused_answer x)
unfolding refused_answer
refused_tellable x s = record { four = refl; small = λ y e. rw (← same_refusal e) s }

answer_tellable : (N : Network) (route : List Leg) → Tellable (answer_of N route)
unfolding answer_of answer_with
answer_tellable N route = record { four = refl; small = names_good Small }

to_tellable : (j : Judged) (a : Answer) → Names Small j → Tellable a → Tellable (answer_to j a)
unfolding answer_to
to_tellable (Ok _) a n t = t
to_tellable (Err x) a n t = refused_tellable x (n x refl)

pub price_tellable : (b bytes : List ℕ) → Tellable (price_of b bytes)
unfolding price_of
price_tellable b bytes =
    to_tellable _ _ (names_then Small _ _ (book_places b) (route_places (network b) bytes)) (answer_tellable (network b) (route_of bytes))

found_tellable : (N : Network) (q : Question) (a : Answer) → Answered N q a → Tellable a
found_tellable N q a (inl f) = rw f.is (answer_tellable N f.route)
found_tellable N q a (inr f) = rw f.is (refused_tellable NoRoute (omega arith))

asked_tellable_by : (j : Judged) (N : Network) (q : Question) (a : Answer) → Names Small j → AnswerTo j N q a → Tellable a
unfolding AnswerTo
asked_tellable_by (Ok _) N q a n h = found_tellable N q a h
asked_tellable_by (Err x) N q a n h = rw h (refused_tellable x (n x refl))

pub asked_tellable : (b : List ℕ) (q : Question) (a : Answer) → Asked b q a → Tellable a
unfolding Asked
asked_tellable b q a h = asked_tellable_by _ (network b) q a (names_then Small _ _ (book_places b) (question_places (network b) q)) h

-- what is written of a judgement names a place that fits
pub written_small : (j : Judged) (result lent : List ℕ) → Names Small j → refusal_place_of (answered j result lent) < most_place
unfolding answered choose
written_small (Ok _) result lent n = room (leb (length result) (length lent))
  where
    room : (t : Bool) → refusal_place_of (choose t (Ok (length result)) (Err NoRoom)) < most_place
    room true = omega arith
    room false = omega arith
written_small (Err x) result lent n = n x refl
