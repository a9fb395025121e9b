-- A route has one price, the computed one, and its fare is the sum of the entries less the greatest total.
use Prim.Native.Nat.{ℕ, ◌-◌, ◌≤◌}
use mathlib.Core.Path.{◌≡◌, refl, sym, ap, ◌∙◌}
use mathlib.Core.Logic.{◌↔◌, ⊎_elim}
use mathlib.Core.List.{List}
use native.Mathlib.Omega.{arith}
use lib.ListN.{length}
use Rattle.outline.specs.declared.Leg.{Leg}
use Rattle.outline.specs.declared.Run.{Run}
use Rattle.outline.specs.declared.Answer.{Answer}
use Rattle.outline.specs.Network.{Network}
use Rattle.outline.specs.Matching.{run_of, sum_of}
use Rattle.outline.specs.Selections.{Earn, Apart, total, Best}
use Rattle.outline.specs.Price.{earn_on, runs_of, fare_with, fare_of, answer_with, Priced, answer_of}
use Rattle.laws.proofs.Matching.{earns_less}
use Rattle.choice.proofs.Totals.{Frugal}
use Rattle.choice.proofs.Least.{computed_best, best_only}

-- what a rule earns on a run is less than what the run costs
pub frugal : (N : Network) (route : List Leg) → Frugal N route (earn_on N route)
frugal N route first rides k y e = earns_less N (run_of route first rides) k y e

pub runs_best : (N : Network) (route : List Leg) → Best (earn_on N route) N.rules (length route) (runs_of N route)
unfolding runs_of
runs_best N route = computed_best (earn_on N route) N.rules (length route)

-- the computed price is the route's price, and the only one
pub priced_is : (N : Network) (route : List Leg) (r : Answer) → Priced N route r ↔ (r ≡ answer_of N route)
unfolding answer_of
priced_is N route r = (
  λ p. p.is ∙ ap (answer_with N route) (best_only (earn_on N route) N.rules (length route) p.runs (runs_of N route) p.best (runs_best N route)),
  λ e. record { runs = runs_of N route; best = runs_best N route; is = e },
)

pub one_price : (N : Network) (route : List Leg) (r q : Answer) → Priced N route r → Priced N route q → r ≡ q
one_price N route r q p s = (priced_is N route r).0 p ∙ sym ((priced_is N route q).0 s)

-- no selection earns more
pub greatest : (earn : Earn) (rules n : ℕ) (s t : List Run) → Best earn rules n s → Apart earn rules n 0 t → total earn t ≤ total earn s
greatest earn rules n s t best apart = ⊎_elim (λ l. omega arith) (λ e. let same = e.0 in omega arith) (best.first t apart)

-- f is the sum of the entries less the greatest total
pub record GreatestOff (N : Network) (route : List Leg) (f : ℕ) : Type 0 where
  pub runs : List Run
  pub apart : Apart (earn_on N route) N.rules (length route) 0 runs
  pub most : (t : List Run) → Apart (earn_on N route) N.rules (length route) 0 t → total (earn_on N route) t ≤ total (earn_on N route) runs
  pub is : f ≡ sum_of N route - total (earn_on N route) runs

pub fare_greatest : (N : Network) (route : List Leg) → GreatestOff N route (fare_of N route)
unfolding fare_of fare_with
fare_greatest N route = record {
  runs = runs_of N route;
  apart = (runs_best N route).apart;
  most = λ t a. greatest (earn_on N route) N.rules (length route) (runs_of N route) t (runs_best N route) a;
  is = refl;
}
