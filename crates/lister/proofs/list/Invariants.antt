-- What was written, and what the rows still put, is the whole output. Each row is one that the book has.
use Rattle.std.proofs.Common.{ℕ, List}
use Rattle.std.specs.Io.KnownBytes.{Appends}
use Rattle.rows.specs.Rows.{Due}
use Rattle.rows.proofs.Walk.{left}
use Rattle.lister.proofs.Written.{Written}
use Rattle.lister.proofs.list.Given as goal

abbrev pub invariant-loop-out : goal.invariant-loop-out
invariant-loop-out g l = record {
  due : Due l.book l.row;
  written : (done : List ℕ) × Appends (g.W.Write.contents l.initial.to) (g.W.Write.contents l.to) done × Written l.book l.row done;
}

abbrev pub decreases-loop-out : goal.decreases-loop-out
decreases-loop-out g l = left l.row
