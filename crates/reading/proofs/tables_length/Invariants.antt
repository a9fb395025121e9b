-- `reading::tables_length` meets its contract.
use lib.ListN.{length}
use Rattle.reading.proofs.Parts.{table_list}
use mathlib.Core.Path.{◌≡◌}
use Rattle.outline.specs.Tests.{in_order}
use Rattle.reading.proofs.tables_length.Given as goal

abbrev pub invariant-loop-c : goal.invariant-loop-c
invariant-loop-c l = l.long ≡ length (in_order (table_list l.book.bytes.now) l.c)
