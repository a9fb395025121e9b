-- `writing::put_entries` meets its contract.
use mathlib.Core.Path.{◌≡◌}
use Rattle.outline.specs.Lending.{filled}
use Rattle.outline.specs.Tests.{in_order}
use Rattle.outline.specs.Sheet.{company_start, fares_in}
use Rattle.outline.specs.Writing.{offset_in, entry_bytes}
use Rattle.writing.proofs.put_entries.Given as goal

abbrev pub invariant-loop-e : goal.invariant-loop-e
invariant-loop-e l = (l.at ≡ company_start l.sheet.numbers.now l.e) × (l.offset ≡ offset_in (fares_in l.sheet.numbers.now) l.e) × (l.book ≡ filled (in_order (entry_bytes (fares_in l.sheet.numbers.now)) l.e) l.initial.book)
