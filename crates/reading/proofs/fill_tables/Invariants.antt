-- `reading::fill_tables` meets its contract.
use lib.ListN.{length}
use Rattle.reading.proofs.Parts.{table_list}
use mathlib.Core.Path.{◌≡◌}
use Rattle.outline.specs.Lending.{filled}
use Rattle.outline.specs.Tests.{in_order}
use Rattle.reading.proofs.fill_tables.Given as goal

abbrev pub invariant-loop-c : goal.invariant-loop-c
invariant-loop-c l = (l.at ≡ length (in_order (table_list l.book.bytes.now) l.c)) × (l.sheet ≡ filled (in_order (table_list l.book.bytes.now) l.c) l.initial.sheet)
