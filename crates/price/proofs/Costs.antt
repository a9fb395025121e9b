-- The fare: what the selection earns is no more than the rides cost, and the difference fits.
use Prim.Native.Nat.{ℕ, ◌*◌, ◌-◌, ◌≤◌, ◌<◌}
use mathlib.Core.Path.{◌≡◌, ap, ◌∙◌}
use mathlib.Core.List.{List}
use native.Mathlib.Omega.{arith}
use lib.Seq.{take-take}
use Rattle.outline.specs.Numbers.{most_fare}
use Rattle.outline.specs.Book.{network}
use Rattle.outline.specs.Matching.{sum_of}
use Rattle.outline.specs.Selections.{total}
use Rattle.outline.specs.Routes.{no_ride}
use Rattle.outline.specs.Price.{runs_of, fare_with, fare_of}
use Rattle.routes.specs.declared.Route.{Route}
use Rattle.routes.specs.Held.{rides_of}
use Rattle.routes.proofs.Rides.{rides_length, rides_at}
use Rattle.matching.specs.Runs.{run_in}
use Rattle.selection.specs.declared.Selection.{Selection}
use Rattle.selection.specs.Chosen.{earn_in, Chosen}
use Rattle.choice.proofs.Totals.{total_most}
use Rattle.choice.proofs.Priced.{runs_best, frugal}
use Rattle.laws.proofs.Entries.{AllExist, sum-within}
use Rattle.price.specs.Priceable.{Priceable}

module _ (b : List ℕ) (r : Route) (p : Priceable b r) (runs : Selection) (chosen : Chosen (earn_in b r) 2 (runs_of (network b) (rides_of r)) runs)
    (sum : ℕ) (paid : sum ≡ sum_of (network b) (run_in r 0 r.count)) where
  cost : sum ≡ sum_of (network b) (rides_of r)
  cost = paid ∙ ap (sum_of (network b)) (take-take r.count r.count r.legs (omega arith))

  earned : runs.total ≡ total (earn_in b r) (runs_of (network b) (rides_of r))
  earned = chosen.sound.earned ∙ ap (total (earn_in b r)) chosen.is

  all_exist : AllExist (network b) (rides_of r)
  all_exist i h =
      let long = rides_length r p.held.sized in
      let inside : i < r.count = omega arith in
      rw (← rides_at r p.held.sized i no_ride inside) (p.held.exist i inside)

  pub covered : runs.total ≤ sum
  covered =
      let c = cost in
      let e = earned in
      let most = total_most (network b) (rides_of r) (earn_in b r) (frugal (network b) (rides_of r)) (network b).rules (runs_of (network b) (rides_of r)) (runs_best (network b) (rides_of r)).apart in
      omega arith

  pub small : sum ≤ 4 * most_fare
  small =
      let c = cost in
      let long = rides_length r p.held.sized in
      omega (arith, (sum-within b p.valid (rides_of r) all_exist).to, p.held.sized.few)

  pub fare_is : sum - runs.total ≡ fare_of (network b) (rides_of r)
  unfolding fare_of fare_with
  fare_is = let c = cost in let e = earned in omega arith
