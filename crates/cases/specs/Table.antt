-- The table of proved cases: the lines of document 01 marked P, and what the table says of a case.
use Rattle.std.specs.Prelude.{ℕ, ◌≡◌, List, [], ◌∷◌, take, Ok, Err}
use Rattle.outline.specs.declared.Ride.{Ride}
use Rattle.outline.specs.declared.Answer.{Answer}
use Rattle.outline.specs.Refusals.{number_of, Judged}
use Rattle.outline.specs.Price.{price_of}
use Rattle.outline.specs.Listing.{asked_of}
use Rattle.cases.specs.Books.{four_rides, two_rides, book_q, two_ways}

-- what is asked of a book: the price of a given route, by its bytes; or the cheapest route from a company's station to another, within a limit
pub data Asked : Type 0 where
  price : List ℕ → Asked
  cheapest : ℕ → ℕ → ℕ → ℕ → ℕ → Asked

-- a fare and the bytes of the rides, or a refusal's number
pub data Outcome : Type 0 where
  costs : ℕ → List ℕ → Outcome
  refused : ℕ → Outcome

pub record Case : Type 0 where
  pub book : List ℕ
  pub asked : Asked
  pub outcome : Outcome

-- the one answer that the contracts allow
unfoldable pub answered : List ℕ → Asked → Answer
answered book (price route) = price_of book route
answered book (cheapest company station to_company to_station limit) =
    asked_of book (record { from = record { company = company; number = station }; to = record { company = to_company; number = to_station }; limit = limit })

unfoldable pub bytes_in : List Ride → List ℕ
bytes_in [] = []
bytes_in (r ∷ places) = r.company ∷ r.boarding ∷ r.alighting ∷ bytes_in places

unfoldable pub outcome_of : Judged → Answer → Outcome
outcome_of (Ok _) r = costs r.fare (bytes_in (take r.rides r.places))
outcome_of (Err x) r = refused (number_of x)

abbrev pub Holds : Case → Type 0
Holds c = outcome_of (answered c.book c.asked).judged (answered c.book c.asked) ≡ c.outcome

unfoldable pub AllHold : List Case → Type 0
AllHold [] = Unit {0}
AllHold (c ∷ cases) = Holds c × AllHold cases

-- a case of book Q: A, B and C are companies 0, 1 and 2
abbrev pub on_q : Asked → Outcome → Case
on_q asked outcome = record { book = book_q; asked = asked; outcome = outcome }

abbrev pub table : List Case
table =
    -- "A0 to A2: 280, one ride; never 260."
    on_q (cheapest 0 0 0 2 4) (costs 280 (0 ∷ 0 ∷ 2 ∷ []))
    -- "A1 to B1: 230. P A0 to B1: 380."
    ∷ on_q (cheapest 0 1 1 1 4) (costs 230 (0 ∷ 1 ∷ 2 ∷ 1 ∷ 0 ∷ 1 ∷ []))
    ∷ on_q (cheapest 0 0 1 1 4) (costs 380 (0 ∷ 0 ∷ 2 ∷ 1 ∷ 0 ∷ 1 ∷ []))
    -- "A0 to C0: 280 + 120 + 150 − 20 = 530, three rides. P Limit 2: refusal 12. Limit 3: 530."
    ∷ on_q (cheapest 0 0 2 0 4) (costs 530 (0 ∷ 0 ∷ 2 ∷ 1 ∷ 0 ∷ 1 ∷ 2 ∷ 1 ∷ 0 ∷ []))
    ∷ on_q (cheapest 0 0 2 0 2) (refused 12)
    ∷ on_q (cheapest 0 0 2 0 3) (costs 530 (0 ∷ 0 ∷ 2 ∷ 1 ∷ 0 ∷ 1 ∷ 2 ∷ 1 ∷ 0 ∷ []))
    -- "A0 to C1: 12. Walking A2, B0, C0 uses two links without a ride."
    ∷ on_q (cheapest 0 0 2 1 4) (refused 12)
    -- "A2 to B1: 12. The first ride leaves A2 and would have to come back."
    ∷ on_q (cheapest 0 2 1 1 4) (refused 12)
    -- "B1 to A0: 400. P C1 to B1: 270, by link 1."
    ∷ on_q (cheapest 1 1 0 0 4) (costs 400 (1 ∷ 1 ∷ 0 ∷ 0 ∷ 2 ∷ 0 ∷ []))
    ∷ on_q (cheapest 2 1 1 1 4) (costs 270 (2 ∷ 1 ∷ 0 ∷ 1 ∷ 0 ∷ 1 ∷ []))
    -- "A0 to A0: 10. Limit 0 and limit 5: 11."
    ∷ on_q (cheapest 0 0 0 0 4) (refused 10)
    ∷ on_q (cheapest 0 0 0 2 0) (refused 11)
    ∷ on_q (cheapest 0 0 0 2 5) (refused 11)
    -- "Four rides of 100; rules of 30 on rides 1–2, 20 on 0–1, 20 on 2–3: fare 360, not 370."
    ∷ record { book = four_rides; asked = price (0 ∷ 0 ∷ 1 ∷ 1 ∷ 0 ∷ 1 ∷ 2 ∷ 0 ∷ 1 ∷ 3 ∷ 0 ∷ 1 ∷ []); outcome = costs 360 (0 ∷ 0 ∷ 1 ∷ 1 ∷ 0 ∷ 1 ∷ 2 ∷ 0 ∷ 1 ∷ 3 ∷ 0 ∷ 1 ∷ []) }
    -- "Two rides summing to 20 with a rule of 20: fare 20. P Summing to 21: fare 1."
    ∷ record { book = two_rides 10; asked = price (0 ∷ 0 ∷ 1 ∷ 1 ∷ 0 ∷ 1 ∷ []); outcome = costs 20 (0 ∷ 0 ∷ 1 ∷ 1 ∷ 0 ∷ 1 ∷ []) }
    ∷ record { book = two_rides 11; asked = price (0 ∷ 0 ∷ 1 ∷ 1 ∷ 0 ∷ 1 ∷ []); outcome = costs 1 (0 ∷ 0 ∷ 1 ∷ 1 ∷ 0 ∷ 1 ∷ []) }
    -- "Routes of 300 less 40, and of 270: 260 wins."
    ∷ record { book = two_ways; asked = cheapest 0 0 1 1 4; outcome = costs 260 (0 ∷ 0 ∷ 2 ∷ 1 ∷ 2 ∷ 1 ∷ []) }
    ∷ []
