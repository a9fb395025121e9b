-- `bodies::put_links` meets its contract.
use mathlib.Core.Path.{◌≡◌}
use Prim.Native.Nat.{ℕ, ◌+◌, ◌*◌}
use Rattle.outline.specs.Lending.{filled}
use Rattle.outline.specs.Tests.{in_order}
use Rattle.outline.specs.Sheet.{link_in}
use Rattle.outline.specs.Writing.{link_bytes}
use Rattle.bodies.proofs.put_links.Given as goal

abbrev pub invariant-loop-k : goal.invariant-loop-k
invariant-loop-k l = l.book ≡ filled (in_order (λ (j : ℕ). link_bytes (link_in l.sheet (l.first + 4 * j))) l.k) l.initial.book
