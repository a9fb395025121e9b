-- `bodies::put_numbers` meets its contract.
use mathlib.Core.Path.{◌≡◌}
use lib.ListN.{take}
use Rattle.outline.specs.Lending.{filled}
use Rattle.bodies.proofs.put_numbers.Given as goal

abbrev pub invariant-loop-i : goal.invariant-loop-i
invariant-loop-i l = l.book ≡ filled (take l.i l.from) l.initial.book
