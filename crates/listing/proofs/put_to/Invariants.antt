-- `listing::put_to` meets its contract.
use Prim.Native.Nat.{ℕ, ◌+◌, ◌*◌, ◌≤◌}
use mathlib.Core.List.{List}
use Rattle.outline.specs.declared.Station.{Station}
use Rattle.outline.specs.Book.{network}
use Rattle.outline.specs.Network.{Network}
use Rattle.outline.specs.Tests.{in_order}
use Rattle.outline.specs.Lister.{station}
use Rattle.listing.specs.Lines.{line_to}
use Rattle.listing.specs.Putting.{Put}
use Rattle.listing.proofs.put_to.Given as goal

abbrev pub nth : Network → Station → ℕ → ℕ → List ℕ
nth N x company number = line_to N x (station company number)

abbrev pub invariant-loop-number : goal.invariant-loop-number
invariant-loop-number l = Put l.initial.out l.at (in_order (nth (network l.good.book.bytes.now) l.x l.company) l.number) l.out l.end × (l.end ≤ l.at + 36 * l.number)
