-- `reading::fill_links` meets its contract.
use mathlib.Core.Path.{◌≡◌}
use Prim.Native.Nat.{ℕ}
use Rattle.outline.specs.Lending.{filled}
use Rattle.outline.specs.Tests.{in_order}
use Rattle.outline.specs.Fares.{link_at}
use Rattle.outline.specs.Book.{fares_of}
use Rattle.outline.specs.Sheet.{link_sheet}
use Rattle.reading.proofs.fill_links.Given as goal

abbrev pub invariant-loop-k : goal.invariant-loop-k
invariant-loop-k l = l.sheet ≡ filled (in_order (λ (j : ℕ). link_sheet (link_at (fares_of l.book.bytes.now) j)) l.k) l.initial.sheet
