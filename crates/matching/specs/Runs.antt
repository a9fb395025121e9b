-- A run of a route, and the later tests of a rule on it.
use Rattle.std.specs.Prelude.{ℕ, ◌+◌, ◌≤◌, Result, Ok, List, ltb}
use Rattle.outline.specs.declared.Leg.{Leg}
use Rattle.outline.specs.declared.Reason.{Reason}
use Rattle.outline.specs.declared.Reason.TheVariants.{NotBoarded, NotAlighted, NotPermitted, NotDearer}
use Rattle.outline.specs.declared.Rule.{Rule}
use Rattle.outline.specs.Network.{Network}
use Rattle.outline.specs.Matching.{run_of, sum_of, boards, alights, permitted, unless}
use Rattle.routes.specs.declared.Route.{Route}
use Rattle.routes.specs.Held.{rides_of}

abbrev pub run_in : Route → ℕ → ℕ → List Leg
run_in r first rides = run_of (rides_of r) first rides

-- the route has these rides
pub record Inside (r : Route) (first rides : ℕ) : Type 0 where
  pub ends : first + rides ≤ r.count
  pub some : 1 ≤ rides

-- the tests of the changes and of the sum
abbrev pub cost_reason : Network → Rule → List Leg → Result ℕ Reason
cost_reason N rule run =
    unless (permitted N rule run) NotPermitted
    (unless (ltb rule.amount (sum_of N run)) NotDearer
    (Ok rule.amount))

-- the tests from the two ends of the run on
abbrev pub ends_reason : Network → Rule → List Leg → Result ℕ Reason
ends_reason N rule run =
    unless (boards rule run) NotBoarded
    (unless (alights rule run) NotAlighted
    (cost_reason N rule run))
