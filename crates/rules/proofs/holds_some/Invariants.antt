-- `rules::holds_some` meets its contract.
use Rattle.std.proofs.Common.{◌≡◌, ℕ, ◌≤◌, ◌<◌, false}
use Rattle.outline.specs.Fares.{in_map}
use Rattle.rules.proofs.holds_some.Given as goal

abbrev pub invariant-loop-i : goal.invariant-loop-i
invariant-loop-i l = (k : ℕ) → l.start ≤ k → k < l.i → in_map l.map k ≡ false
