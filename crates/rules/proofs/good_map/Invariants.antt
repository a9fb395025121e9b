-- `rules::good_map` meets its contract.
use Rattle.std.proofs.Common.{◌≡◌, ℕ, ◌*◌, ◌≤◌, ◌<◌, false}
use Rattle.outline.specs.Fares.{in_map}
use Rattle.rules.proofs.good_map.Given as goal

abbrev pub invariant-loop-k : goal.invariant-loop-k
invariant-loop-k l = (i : ℕ) → i < 8 * l.k → l.items ≤ i → in_map l.map i ≡ false
