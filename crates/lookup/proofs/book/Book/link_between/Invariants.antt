-- `lookup::book::Book::link_between` meets its contract.
use mathlib.Core.Path.{◌≡◌}
use Rattle.std.specs.Prelude.{None}
use Rattle.outline.specs.Book.{network}
use Rattle.outline.specs.Network.{joined_below}
use Rattle.lookup.proofs.book.Book.link_between.Given as goal

abbrev pub invariant-loop-k : goal.invariant-loop-k
invariant-loop-k l = joined_below (network l.self.bytes.now) l.x l.y l.k ≡ None
