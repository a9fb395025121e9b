-- `listing::put_from` meets its contract.
use Prim.Native.Nat.{◌*◌, ◌≤◌}
use Rattle.outline.specs.Book.{network}
use Rattle.outline.specs.Tests.{in_order}
use Rattle.listing.specs.Lines.{lines_to}
use Rattle.listing.specs.Putting.{Put}
use Rattle.listing.proofs.put_from.Given as goal

abbrev pub invariant-loop-company : goal.invariant-loop-company
invariant-loop-company l = Put l.initial.out 0 (in_order (lines_to (network l.good.book.bytes.now) l.x) l.company) l.out l.end × (l.end ≤ 1440 * l.company)
