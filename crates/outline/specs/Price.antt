-- Document 01, "Price": a route's fare, how each ride is paid for, and the answer to a given route.
use Rattle.std.specs.Prelude.{ℕ, ◌+◌, ◌-◌, ◌≡◌, Bool, List, [], ◌∷◌, length, leb, ltb, Ok, Err}
use Rattle.outline.specs.declared.Leg.{Leg}
use Rattle.outline.specs.declared.Run.{Run}
use Rattle.outline.specs.declared.Ride.{Ride}
use Rattle.outline.specs.declared.Paid.{Paid}
use Rattle.outline.specs.declared.Paid.TheVariants.{Full, ByRule}
use Rattle.outline.specs.declared.Answer.{Answer}
use Rattle.outline.specs.declared.Refusal.{Refusal}
use Rattle.outline.specs.Tests.{both, choose}
use Rattle.outline.specs.Refusals.{◌and_then◌, Judged}
use Rattle.outline.specs.Network.{Network}
use Rattle.outline.specs.Book.{network}
use Rattle.outline.specs.Judging.{book_check}
use Rattle.outline.specs.Routes.{no_ride, ride_at, route_of, route_check}
use Rattle.outline.specs.Matching.{run_of, sum_of, earns}
use Rattle.outline.specs.Selections.{Earn, total, Best}
use Rattle.outline.specs.Choosing.{best_runs}

abbrev pub earn_on : Network → List Leg → Earn
earn_on N route first rides k = earns N (run_of route first rides) k

-- the discounted runs of a route
unfoldable pub runs_of : Network → List Leg → List Run
runs_of N route = best_runs (earn_on N route) N.rules (length route)

-- "The fare is the sum of entries less the greatest total that such runs can earn."
unfoldable pub fare_with : Network → List Leg → List Run → ℕ
fare_with N route runs = sum_of N route - total (earn_on N route) runs

unfoldable pub fare_of : Network → List Leg → ℕ
fare_of N route = fare_with N route (runs_of N route)

-- ---- the answer

-- ride i belongs to the run p
unfoldable pub belongs : ℕ → Run → Bool
belongs i p = both (leb p.first i) (ltb i (p.first + p.rides))

-- "In it each ride carries how it was paid for: full, or by a rule of this number."
unfoldable pub paid_by : List Run → ℕ → Paid
paid_by [] i = Full
paid_by (p ∷ runs) i = choose (belongs i p) (ByRule p.rule) (paid_by runs i)

abbrev pub paid_ride : Leg → Paid → Ride
paid_ride l p = record { company = l.company; boarding = l.boarding; alighting = l.alighting; paid = p }

-- "Places not used hold 255 in all three bytes and are marked full."
abbrev pub unused : Ride
unused = paid_ride no_ride Full

unfoldable pub place_at : List Leg → List Run → ℕ → Ride
place_at route runs i = choose (ltb i (length route)) (paid_ride (ride_at route i) (paid_by runs i)) unused

-- "An answer holds the fare, the number of rides and four places for rides."
unfoldable pub answer_with : Network → List Leg → List Run → Answer
answer_with N route runs = record {
  judged = Ok tt;
  fare = fare_with N route runs;
  rides = length route;
  places = place_at route runs 0 ∷ place_at route runs 1 ∷ place_at route runs 2 ∷ place_at route runs 3 ∷ [];
}

-- a route's price, by the selection of runs that counts
pub record Priced (N : Network) (route : List Leg) (r : Answer) : Type 0 where
  pub runs : List Run
  pub best : Best (earn_on N route) N.rules (length route) runs
  pub is : r ≡ answer_with N route runs

-- the same, computed
unfoldable pub answer_of : Network → List Leg → Answer
answer_of N route = answer_with N route (runs_of N route)

-- "a refused price or question carries fare 0, no rides and unused places"
unfoldable pub refused_answer : Refusal → Answer
refused_answer x = record { judged = Err x; fare = 0; rides = 0; places = unused ∷ unused ∷ unused ∷ unused ∷ [] }

unfoldable pub answer_to : Judged → Answer → Answer
answer_to (Ok _) answer = answer
answer_to (Err x) answer = refused_answer x

-- "A given route: book first, then 14"
unfoldable pub price_of : List ℕ → List ℕ → Answer
price_of b bytes = answer_to (book_check b and_then route_check (network b) bytes) (answer_of (network b) (route_of bytes))
