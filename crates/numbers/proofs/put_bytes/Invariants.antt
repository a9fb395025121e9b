-- `numbers::put_bytes` meets its contract.
use mathlib.Core.Path.{◌≡◌}
use lib.ListN.{take}
use Rattle.outline.specs.Lending.{filled}
use Rattle.numbers.proofs.put_bytes.Given as goal

abbrev pub invariant-loop-i : goal.invariant-loop-i
invariant-loop-i l = l.sheet ≡ filled (take l.i l.from) l.initial.sheet
