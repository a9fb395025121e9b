-- `writing::companies_length` meets its contract.
use lib.ListN.{length}
use mathlib.Core.Path.{◌≡◌}
use Rattle.outline.specs.Tests.{in_order}
use Rattle.outline.specs.Sheet.{company_start, fares_in}
use Rattle.outline.specs.Writing.{body_in}
use Rattle.writing.proofs.companies_length.Given as goal

abbrev pub invariant-loop-c : goal.invariant-loop-c
invariant-loop-c l = (l.at ≡ company_start l.sheet.numbers.now l.c) × (l.long ≡ length (in_order (body_in (fares_in l.sheet.numbers.now)) l.c))
