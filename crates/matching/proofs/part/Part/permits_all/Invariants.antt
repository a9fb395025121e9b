-- `matching::part::Part::permits_all` meets its contract.
use Rattle.matching.specs.Runs.{run_in}
use Rattle.outline.specs.Matching.{permits}
use Rattle.outline.specs.Routes.{link_after}
use Rattle.outline.specs.Book.{network}
use Rattle.outline.specs.Tests.{all_below}
use mathlib.Core.Bool.{true}
use Prim.Native.Nat.{ℕ, ◌-◌}
use mathlib.Core.Path.{◌≡◌}
use Rattle.matching.proofs.part.Part.permits_all.Given as goal

abbrev pub invariant-loop-i : goal.invariant-loop-i
invariant-loop-i l = all_below (λ (i : ℕ). permits ((network l.self.book.bytes.now).rule l.k) (link_after (network l.self.book.bytes.now) (run_in l.self.route l.self.first l.self.rides) i)) (l.i - 1) ≡ true
