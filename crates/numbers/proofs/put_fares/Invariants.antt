-- `numbers::put_fares` meets its contract.
use mathlib.Core.Path.{◌≡◌}
use lib.ListN.{take}
use Rattle.outline.specs.Lending.{filled}
use Rattle.outline.specs.Book.{table_of}
use Rattle.numbers.proofs.put_fares.Given as goal

abbrev pub invariant-loop-i : goal.invariant-loop-i
invariant-loop-i l = l.sheet ≡ filled (take l.i (table_of l.body.bytes.now).fares) l.initial.sheet
