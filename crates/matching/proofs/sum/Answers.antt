-- `matching::sum` meets its contract.
use Rattle.matching.proofs.Runs.{fares_length, fare_at, sum-turn}
use Rattle.matching.specs.Runs.{run_in}
use Rattle.outline.specs.Matching.{sum_of}
use borrow.Author.Rules.{rules}
use Prim.Native.Nat.{ℕ, ◌≤◌, ◌<◌}
use native.Mathlib.Omega.{arith}
use mathlib.Core.Path.{◌≡◌, refl, ap, ◌∙◌}
use Rattle.matching.proofs.sum.Goals as goal

pub loop-fare-init : goal.loop-fare-init
unfolding sum_of
loop-fare-init c = (search rules, λ N held. refl)

pub overflow_add-sum : goal.overflow_add-sum
overflow_add-sum c =
    let long = fares_length c.args.route c.requires.0 c.args.first c.args.rides c.requires.1 in
    let small : c.from-sum.result ≤ 65535 = search rules in
    omega (arith, c.requires.0.few)

pub loop-fare-preserved : goal.loop-fare-preserved
loop-fare-preserved c =
    let s = c.args in
    let l = c.loop-fare in
    let long = fares_length s.route c.requires.0 s.first s.rides c.requires.1 in
    let inside : l.fare-index < s.rides = omega arith in
    let here = c.from-sum.ensures ∙ fare_at s.route c.requires.0 s.first s.rides c.requires.1 l.fare-index inside in (
      search rules,
      λ N held.
          let turn = sum-turn N s.route held s.first l.fare-index (omega arith) in
          let before = l.invariant.1 N held in
          omega arith,
    )

pub returns : goal.returns
returns c =
    let s = c.args in
    let long = fares_length s.route c.requires.0 s.first s.rides c.requires.1 in
    let all : c.loop-fare.fare-index ≡ s.rides = omega arith in
    (λ N held. c.loop-fare.invariant.1 N held ∙ ap (λ (i : ℕ). sum_of N (run_in s.route s.first i)) all, omega arith)
