-- `reading::fill_rules` meets its contract.
use Rattle.outline.specs.Book.{fares_of}
use mathlib.Core.Path.{◌≡◌}
use Prim.Native.Nat.{ℕ}
use Rattle.outline.specs.Lending.{filled}
use Rattle.outline.specs.Tests.{in_order}
use Rattle.outline.specs.Fares.{rule_at}
use Rattle.outline.specs.Sheet.{rule_sheet}
use Rattle.reading.proofs.fill_rules.Given as goal

abbrev pub invariant-loop-k : goal.invariant-loop-k
invariant-loop-k l = l.sheet ≡ filled (in_order (λ (j : ℕ). rule_sheet (rule_at (fares_of l.book.bytes.now) j)) l.k) l.initial.sheet
