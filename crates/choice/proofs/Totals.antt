-- What a selection earns in all: less than the rides cost, where each rule earns less than its run costs.
use Prim.Native.Nat.{ℕ, ◌+◌, ◌-◌, ◌≤◌, ◌<◌}
use mathlib.Core.Path.{◌≡◌, sym, ap, ◌∙◌}
use mathlib.Core.List.{List, [], ◌∷◌, ◌++◌}
use native.Mathlib.Omega.{arith}
use lib.ListN.{length, take, drop, take-append-drop}
use lib.Seq.{drop-drop}
use Rattle.outline.specs.declared.Leg.{Leg}
use Rattle.outline.specs.declared.Run.{Run}
use Rattle.std.specs.Prelude.{Some}
use Rattle.outline.specs.Network.{Network}
use Rattle.outline.specs.Matching.{run_of, sum_of}
use Rattle.outline.specs.Selections.{Earn, Apart, total}
use Rattle.choice.proofs.Rules.{earned, yen_is}

pub sum_append : (N : Network) (s t : List Leg) → sum_of N (s ++ t) ≡ sum_of N s + sum_of N t
unfolding sum_of
sum_append N [] t = omega arith
sum_append N (l ∷ s) t = let e = sum_append N s t in omega arith

pub sum_split : (N : Network) (n : ℕ) (s : List Leg) → sum_of N (take n s) + sum_of N (drop n s) ≡ sum_of N s
sum_split N n s = sym (sum_append N (take n s) (drop n s)) ∙ ap (sum_of N) (take-append-drop n s)

-- what a rule earns is less than what the run costs
abbrev pub Frugal : Network → List Leg → Earn → Type 0
Frugal N route earn = (first rides k y : ℕ) → earn first rides k ≡ Some y → y < sum_of N (run_of route first rides)

module _ (N : Network) (route : List Leg) (earn : Earn) (frugal : Frugal N route earn) (rules : ℕ) where
  -- a run and what comes after it, of the rides from `from` on
  total_less : (from : ℕ) (p : Run) (s : List Run) → Apart earn rules (length route) from (p ∷ s)
      → total earn s ≤ sum_of N (drop (p.first + p.rides) route) → total earn (p ∷ s) < sum_of N (drop from route)
  unfolding Apart total
  total_less from p s h later =
      let a = h.0 in
      let e = earned _ a.pays in
      let y = yen_is _ _ e.is in
      let less = frugal p.first p.rides p.rule e.yen e.is in
      let run = sum_split N p.rides (drop p.first route) in
      let seam = ap (sum_of N) (drop-drop p.rides p.first route) in
      let skip = sum_split N (p.first - from) (drop from route) in
      let back : from + (p.first - from) ≡ p.first = omega (arith, a.after) in
      let over = ap (sum_of N) (drop-drop (p.first - from) from route ∙ ap (λ (n : ℕ). drop n route) back) in
      omega arith

  total_within : (from : ℕ) (s : List Run) → Apart earn rules (length route) from s → total earn s ≤ sum_of N (drop from route)
  unfolding Apart total
  total_within from [] h = omega arith
  total_within from (p ∷ s) h = let l = total_less from p s h (total_within (p.first + p.rides) s h.1) in omega arith

  -- a selection earns no more than the route costs
  pub total_most : (s : List Run) → Apart earn rules (length route) 0 s → total earn s ≤ sum_of N route
  total_most s h = total_within 0 s h

  -- a route that costs something costs something after its discounts
  pub total_below : (s : List Run) → Apart earn rules (length route) 0 s → 0 < sum_of N route → total earn s < sum_of N route
  unfolding Apart total
  total_below [] h some = some
  total_below (p ∷ s) h some = total_less 0 p s h (total_within (p.first + p.rides) s h.1)
