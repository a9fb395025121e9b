-- `sheet_layout::company_start` meets its contract.
use mathlib.Core.Path.{◌≡◌}
use Rattle.outline.specs.Sheet.{company_start}
use Rattle.sheet_layout.proofs.company_start.Given as goal

abbrev pub invariant-loop-d : goal.invariant-loop-d
invariant-loop-d l = l.at ≡ company_start l.sheet l.d
