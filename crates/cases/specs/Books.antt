-- The books of the proved cases, byte by byte.
use Rattle.std.specs.Prelude.{ℕ, List, [], ◌∷◌, ◌++◌}

-- the body of a company of two stations, whose only fare, below 256, holds both ways
abbrev pub pair : ℕ → List ℕ
pair fare = 2 ∷ 0 ∷ 0 ∷ fare ∷ 0 ∷ fare ∷ 0 ∷ 0 ∷ 0 ∷ []

-- an entry of the contents, offset and length below 256
abbrev pub entry : ℕ → ℕ → List ℕ
entry offset long = offset ∷ 0 ∷ long ∷ 0 ∷ []

-- a link from station 1 of a company to station 0 of another
abbrev pub onward : ℕ → ℕ → List ℕ
onward company next = company ∷ 1 ∷ next ∷ 0 ∷ []

-- a rule for two companies: an amount below 256, and one byte each of boarding stations, alighting stations and permitted links
abbrev pub rule_for : ℕ → ℕ → ℕ → ℕ → ℕ → ℕ → List ℕ
rule_for company next amount boarding alighting links =
    2 ∷ company ∷ next ∷ 255 ∷ 255 ∷ amount ∷ 0
    ∷ boarding ∷ 0 ∷ 0 ∷ 0 ∷ 0
    ∷ alighting ∷ 0 ∷ 0 ∷ 0 ∷ 0
    ∷ links ∷ 0 ∷ 0 ∷ 0 ∷ 0 ∷ 0 ∷ 0 ∷ 0 ∷ 0 ∷ 0 ∷ 0 ∷ 0 ∷ 0 ∷ 0 ∷ 0 ∷ 0 ∷ []

-- such a rule from station 0 to station 1
abbrev pub for_two : ℕ → ℕ → ℕ → ℕ → List ℕ
for_two company next amount links = rule_for company next amount 1 2 links

-- "Four rides of 100; rules of 30 on rides 1–2, 20 on 0–1, 20 on 2–3": four companies in a line
abbrev pub four_rides : List ℕ
four_rides =
    (1 ∷ 4 ∷ 3 ∷ 3 ∷ [])
    ++ entry 28 9 ++ entry 37 9 ++ entry 46 9 ++ entry 55 9 ++ entry 64 12 ++ entry 76 99
    ++ pair 100 ++ pair 100 ++ pair 100 ++ pair 100
    ++ onward 0 1 ++ onward 1 2 ++ onward 2 3
    ++ for_two 1 2 30 2 ++ for_two 0 1 20 1 ++ for_two 2 3 20 4

-- "Two rides summing to 20 with a rule of 20": rides of 10 and of the fare given
abbrev pub two_rides : ℕ → List ℕ
two_rides fare =
    (1 ∷ 2 ∷ 1 ∷ 1 ∷ [])
    ++ entry 20 9 ++ entry 29 9 ++ entry 38 4 ++ entry 42 33
    ++ pair 10 ++ pair fare
    ++ onward 0 1
    ++ for_two 0 1 20 1

-- book Q: "A has A0, A1, A2: A0–A1 130, A1–A2 130, A0–A2 280. B0–B1 120. C0–C1 150. Each entry holds both ways. Links: 0 A2–B0, 1 B0–C0,
-- 2 B1–C1. Rule 0: A,B, 20 yen, boarding A0 or A1, alighting B1, link 0. Rule 1: B,C, 10 yen, boarding B0, alighting C0, link 2."
abbrev pub book_q : List ℕ
book_q =
    (1 ∷ 3 ∷ 3 ∷ 2 ∷ [])
    ++ entry 24 19 ++ entry 43 9 ++ entry 52 9 ++ entry 61 12 ++ entry 73 66
    ++ (3 ∷ 0 ∷ 0 ∷ 130 ∷ 0 ∷ 24 ∷ 1 ∷ 130 ∷ 0 ∷ 0 ∷ 0 ∷ 130 ∷ 0 ∷ 24 ∷ 1 ∷ 130 ∷ 0 ∷ 0 ∷ 0 ∷ [])
    ++ pair 120 ++ pair 150
    ++ (0 ∷ 2 ∷ 1 ∷ 0 ∷ []) ++ (1 ∷ 0 ∷ 2 ∷ 0 ∷ []) ++ (1 ∷ 1 ∷ 2 ∷ 1 ∷ [])
    ++ rule_for 0 1 20 3 2 1 ++ rule_for 1 2 10 1 1 4

-- "Routes of 300 less 40, and of 270": by A1–B0 two rides of 135, by A2–B2 two of 150 with a rule of 40 for that link
abbrev pub two_ways : List ℕ
two_ways =
    (1 ∷ 2 ∷ 2 ∷ 1 ∷ [])
    ++ entry 20 19 ++ entry 39 19 ++ entry 58 8 ++ entry 66 33
    ++ (3 ∷ 0 ∷ 0 ∷ 135 ∷ 0 ∷ 150 ∷ 0 ∷ 0 ∷ 0 ∷ 0 ∷ 0 ∷ 0 ∷ 0 ∷ 0 ∷ 0 ∷ 0 ∷ 0 ∷ 0 ∷ 0 ∷ [])
    ++ (3 ∷ 0 ∷ 0 ∷ 135 ∷ 0 ∷ 0 ∷ 0 ∷ 0 ∷ 0 ∷ 0 ∷ 0 ∷ 0 ∷ 0 ∷ 0 ∷ 0 ∷ 150 ∷ 0 ∷ 0 ∷ 0 ∷ [])
    ++ (0 ∷ 1 ∷ 1 ∷ 0 ∷ []) ++ (0 ∷ 2 ∷ 1 ∷ 2 ∷ [])
    ++ rule_for 0 1 40 1 2 2
