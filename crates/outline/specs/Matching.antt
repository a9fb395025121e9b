-- Document 01, "Price": whether a rule matches a run, and what it earns.
use Rattle.std.specs.Prelude.{ℕ, ◌+◌, ◌-◌, Bool, true, false, Option, Some, None, Result, Ok, Err, List, [], ◌∷◌, length, take, drop, ltb, eqb}
use Rattle.outline.specs.declared.Leg.{Leg}
use Rattle.outline.specs.declared.Reason.{Reason}
use Rattle.outline.specs.declared.Reason.TheVariants.{WrongRides, WrongCompanies, NotBoarded, NotAlighted, NotPermitted, NotDearer}
use Rattle.outline.specs.Tests.{all_below}
use Rattle.outline.specs.declared.Rule.{Rule}
use Rattle.outline.specs.Fares.{company_at, in_map}
use Rattle.outline.specs.Network.{Network}
use Rattle.outline.specs.Routes.{entry_for, ride_at, link_after}

-- "A run is two to four rides in a row."
abbrev pub run_of : List Leg → ℕ → ℕ → List Leg
run_of route first rides = take rides (drop first route)

unfoldable pub yen_of : Option ℕ → ℕ
yen_of None = 0
yen_of (Some yen) = yen

-- "the sum of the run's fares"
unfoldable pub sum_of : Network → List Leg → ℕ
sum_of N [] = 0
sum_of N (l ∷ run) = yen_of (entry_for N l) + sum_of N run

-- "its companies are the rule's in the order written"
unfoldable pub same_companies : Rule → List Leg → Bool
same_companies rule run = all_below (λ i. eqb (ride_at run i).company (company_at rule i)) (length run)

-- "the first boarding station and last alighting station are in the maps"
abbrev pub boards : Rule → List Leg → Bool
boards rule run = in_map rule.boarding (ride_at run 0).boarding

abbrev pub alights : Rule → List Leg → Bool
alights rule run = in_map rule.alighting (ride_at run (length run - 1)).alighting

-- "every change in it uses a permitted link"
unfoldable pub permits : Rule → Option ℕ → Bool
permits rule (Some k) = in_map rule.permitted k
permits rule None = false

unfoldable pub permitted : Network → Rule → List Leg → Bool
permitted N rule run = all_below (λ i. permits rule (link_after N run i)) (length run - 1)

-- the reason, unless the test holds; where it holds, what comes next
unfoldable pub unless : Bool → Reason → Result ℕ Reason → Result ℕ Reason
unless true reason next = next
unless false reason next = Err reason

-- "A rule matches a run when the run has m rides, its companies are the rule's in the order written, the first boarding station and last
-- alighting station are in the maps, every change in it uses a permitted link, and the sum of the run's fares is greater than the amount."
unfoldable pub reason_of : Network → Rule → List Leg → Result ℕ Reason
reason_of N rule run =
    unless (eqb rule.rides (length run)) WrongRides
    (unless (same_companies rule run) WrongCompanies
    (unless (boards rule run) NotBoarded
    (unless (alights rule run) NotAlighted
    (unless (permitted N rule run) NotPermitted
    (unless (ltb rule.amount (sum_of N run)) NotDearer
    (Ok rule.amount))))))

abbrev pub saving_of : Result ℕ Reason → Option ℕ
saving_of (Ok yen) = Some yen
saving_of (Err reason) = None

-- what rule k earns on a run
unfoldable pub earns : Network → List Leg → ℕ → Option ℕ
earns N run k = saving_of (reason_of N (N.rule k) run)
