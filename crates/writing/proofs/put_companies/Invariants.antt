-- `writing::put_companies` meets its contract.
use lib.ListN.{length}
use mathlib.Core.Path.{◌≡◌}
use Rattle.outline.specs.Lending.{filled}
use Rattle.outline.specs.Tests.{in_order}
use Rattle.outline.specs.Sheet.{company_start, fares_in}
use Rattle.outline.specs.Writing.{body_in}
use Rattle.writing.proofs.put_companies.Given as goal

abbrev pub invariant-loop-c : goal.invariant-loop-c
invariant-loop-c l = (l.at ≡ company_start l.sheet.numbers.now l.c) × (l.to ≡ length (in_order (body_in (fares_in l.sheet.numbers.now)) l.c)) × (l.book ≡ filled (in_order (body_in (fares_in l.sheet.numbers.now)) l.c) l.initial.book)
