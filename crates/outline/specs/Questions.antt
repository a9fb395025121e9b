-- Document 01, "Cheapest": a question, the order of routes, and what a question is answered with.
use Rattle.std.specs.Prelude.{ℕ, ◌-◌, ◌≤◌, ◌<◌, ◌≡◌, Bool, not, ◌⊎◌, List, length, ltb, Ok, Err}
use Rattle.outline.specs.declared.Station.{Station}
use Rattle.outline.specs.declared.Leg.{Leg}
use Rattle.outline.specs.declared.Question.{Question}
use Rattle.outline.specs.declared.Answer.{Answer}
use Rattle.outline.specs.declared.Refusal.TheVariants.{UnknownStation, SameStation, BadLimit, NoRoute}
use Rattle.outline.specs.Numbers.{most_rides}
use Rattle.outline.specs.Tests.{both, within, Within}
use Rattle.outline.specs.Refusals.{demand, ◌and_then◌, Judged}
use Rattle.outline.specs.Network.{Network, same_station}
use Rattle.outline.specs.Book.{network}
use Rattle.outline.specs.Judging.{book_check}
use Rattle.outline.specs.Lexical.{LexLe}
use Rattle.outline.specs.Routes.{ride_at, boarded_at, alighted_at, Admissible, bytes_of}
use Rattle.outline.specs.Price.{fare_of, answer_of, refused_answer}

-- where a route begins and ends
abbrev pub start_of : List Leg → Station
start_of route = boarded_at (ride_at route 0)

abbrev pub end_of : List Leg → Station
end_of route = alighted_at (ride_at route (length route - 1))

-- a route that may be given to a question: admissible, from the one station to the other, within the limit
pub record Joins (N : Network) (q : Question) (route : List Leg) : Type 0 where
  pub admissible : Admissible N route
  pub from : start_of route ≡ q.from
  pub to : end_of route ≡ q.to
  pub short : length route ≤ q.limit

-- "Cheapest means the lowest fare, then fewest rides, then the least bytes of the route, read left to right."
abbrev pub NoLater : Network → List Leg → List Leg → Type 0
NoLater N s t =
    (fare_of N s < fare_of N t)
    ⊎ ((fare_of N s ≡ fare_of N t) × ((length s < length t) ⊎ ((length s ≡ length t) × LexLe (bytes_of s) (bytes_of t))))

pub record Cheapest (N : Network) (q : Question) (route : List Leg) : Type 0 where
  pub joins : Joins N q route
  pub first : (t : List Leg) → Joins N q t → NoLater N route t

-- the cheapest route with its price
pub record Found (N : Network) (q : Question) (r : Answer) : Type 0 where
  pub route : List Leg
  pub cheapest : Cheapest N q route
  pub is : r ≡ answer_of N route

-- 12: "no admissible route within the limit"
pub record NotFound (N : Network) (q : Question) (r : Answer) : Type 0 where
  pub none : (t : List Leg) → Joins N q t → ⊥
  pub is : r ≡ refused_answer NoRoute

abbrev pub Answered : Network → Question → Answer → Type 0
Answered N q r = Found N q r ⊎ NotFound N q r

-- a question that is answered: "station not in the book", "both stations the same" and "ride limit outside 1 to 4" are refused
pub record Known (N : Network) (x : Station) : Type 0 where
  pub company : x.company < N.companies
  pub number : x.number < N.stations x.company

pub record GoodQuestion (N : Network) (q : Question) : Type 0 where
  pub from : Known N q.from
  pub to : Known N q.to
  pub different : q.from ≡ q.to → ⊥
  pub limit : Within 1 q.limit most_rides

-- 9: "station not in the book"
unfoldable pub known : Network → Station → Bool
known N x = both (ltb x.company N.companies) (ltb x.number (N.stations x.company))

-- "A question: .. then 9 (from before to), 10, 11"
unfoldable pub question_check : Network → Question → Judged
question_check N q =
    demand (known N q.from) (UnknownStation 0)
    (demand (known N q.to) (UnknownStation 1)
    (demand (not (same_station q.from q.to)) SameStation
    (demand (within 1 q.limit most_rides) BadLimit
    (Ok tt))))

-- what is refused has its answer; of a good book and question, what was found
unfoldable pub AnswerTo : Judged → Network → Question → Answer → Type 0
AnswerTo (Ok _) N q r = Answered N q r
AnswerTo (Err x) N q r = r ≡ refused_answer x

-- "A question: book first, then 9 (from before to), 10, 11, 12."
unfoldable pub Asked : List ℕ → Question → Answer → Type 0
Asked b q r = AnswerTo (book_check b and_then question_check (network b) q) (network b) q r
