-- The cheapest answer, computed: all admissible routes are listed, and the first in the order is taken. That it is the answer of
-- Questions.antt is a theorem.
use Rattle.std.specs.Prelude.{ℕ, zero, suc, Bool, true, false, List, [], ◌∷◌, ◌++◌, length, ltb, eqb}
use Rattle.outline.specs.declared.Leg.{Leg}
use Rattle.outline.specs.declared.Question.{Question}
use Rattle.outline.specs.declared.Answer.{Answer}
use Rattle.outline.specs.declared.Refusal.TheVariants.{NoRoute}
use Rattle.outline.specs.Tests.{both, either, choose, list_of, in_order}
use Rattle.outline.specs.Refusals.{◌and_then◌}
use Rattle.outline.specs.Network.{Network, same_station}
use Rattle.outline.specs.Book.{network}
use Rattle.outline.specs.Judging.{book_check}
use Rattle.outline.specs.Routes.{good_next, bytes_of}
use Rattle.outline.specs.Price.{fare_of, answer_of, answer_to, refused_answer}
use Rattle.outline.specs.Questions.{start_of, end_of, question_check}

-- those that have f
unfoldable pub those {ℓ} : {A : Type ℓ} → (A → Bool) → List A → List A
those f [] = []
those f (x ∷ s) = choose (f x) (x ∷ those f s) (those f s)

-- of each item a list, one after the other
unfoldable pub of_each {ℓ} : {A B : Type ℓ} → (A → List B) → List A → List B
of_each f [] = []
of_each f (x ∷ s) = f x ++ of_each f s

abbrev pub ride : ℕ → ℕ → ℕ → Leg
ride company boarding alighting = record { company = company; boarding = boarding; alighting = alighting }

-- from each station of each company to each, sold or not
unfoldable pub rides : Network → List Leg
rides N = in_order (λ c. in_order (λ i. list_of (ride c i) (N.stations c)) (N.stations c)) N.companies

-- a route with each ride after it that may come next
unfoldable pub longer : Network → List Leg → List (List Leg)
longer N route = of_each (λ l. (route ++ (l ∷ [])) ∷ []) (those (good_next N route) (rides N))

-- the admissible routes of n rides, and those of 1 to n rides
unfoldable pub routes_of : Network → ℕ → List (List Leg)
routes_of N zero = [] ∷ []
routes_of N (suc n) = of_each (longer N) (routes_of N n)

unfoldable pub routes_within : Network → ℕ → List (List Leg)
routes_within N zero = []
routes_within N (suc n) = routes_within N n ++ routes_of N (suc n)

unfoldable pub joins_them : Question → List Leg → Bool
joins_them q route = both (same_station (start_of route) q.from) (same_station (end_of route) q.to)

-- s is t or comes before it, "read left to right"
unfoldable pub lex_le : List ℕ → List ℕ → Bool
lex_le [] t = true
lex_le (a ∷ s) [] = false
lex_le (a ∷ s) (b ∷ t) = either (ltb a b) (both (eqb a b) (lex_le s t))

-- "the lowest fare, then fewest rides, then the least bytes of the route"
unfoldable pub no_later : Network → List Leg → List Leg → Bool
no_later N s t =
    either (ltb (fare_of N s) (fare_of N t))
    (both (eqb (fare_of N s) (fare_of N t))
    (either (ltb (length s) (length t))
    (both (eqb (length s) (length t)) (lex_le (bytes_of s) (bytes_of t)))))

-- "the best route so far is kept, and replaced only by one that comes earlier in this order"
unfoldable pub first_of : Network → List Leg → List (List Leg) → List Leg
first_of N best [] = best
first_of N best (t ∷ others) = first_of N (choose (no_later N best t) best t) others

unfoldable pub answer_among : Network → List (List Leg) → Answer
answer_among N [] = refused_answer NoRoute
answer_among N (s ∷ others) = answer_of N (first_of N s others)

unfoldable pub found_of : Network → Question → Answer
found_of N q = answer_among N (those (joins_them q) (routes_within N q.limit))

unfoldable pub asked_of : List ℕ → Question → Answer
asked_of b q = answer_to (book_check b and_then question_check (network b) q) (found_of (network b) q)
