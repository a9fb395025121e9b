-- `matching::sum` meets its contract.
use Rattle.matching.specs.Runs.{run_in}
use Rattle.routes.specs.Held.{Held}
use Rattle.outline.specs.Matching.{sum_of}
use Rattle.outline.specs.Network.{Network}
use Prim.Native.Nat.{◌*◌, ◌≤◌}
use mathlib.Core.Path.{◌≡◌}
use Rattle.matching.proofs.sum.Given as goal

abbrev pub invariant-loop-fare : goal.invariant-loop-fare
invariant-loop-fare l = (l.sum ≤ 65535 * l.fare-index) × ((N : Network) → Held N l.fn.route → l.sum ≡ sum_of N (run_in l.fn.route l.fn.first l.fare-index))
