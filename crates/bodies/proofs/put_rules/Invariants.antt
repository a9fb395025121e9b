-- `bodies::put_rules` meets its contract.
use mathlib.Core.Path.{◌≡◌}
use Prim.Native.Nat.{ℕ, ◌+◌, ◌*◌}
use Rattle.outline.specs.Lending.{filled}
use Rattle.outline.specs.Tests.{in_order}
use Rattle.outline.specs.Sheet.{rule_in}
use Rattle.outline.specs.Writing.{rule_bytes}
use Rattle.bodies.proofs.put_rules.Given as goal

abbrev pub invariant-loop-k : goal.invariant-loop-k
invariant-loop-k l = l.book ≡ filled (in_order (λ (j : ℕ). rule_bytes (rule_in l.sheet (l.first + 32 * j))) l.k) l.initial.book
