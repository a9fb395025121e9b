-- What was written is the list of the block, and so that of the input.
use Rattle.std.specs.Prelude.{OnOk}
use Rattle.std.proofs.Common.{arith}
use Rattle.std.specs.Io.KnownBytes.{Appends}
use Rattle.outline.specs.Book.{network}
use Rattle.outline.specs.Judging.{book_check}
use Rattle.outline.specs.Lister.{lines_of, lister_output}
use Rattle.pairs.proofs.Input.{of_input}
use Rattle.pairs.proofs.run.Goals as goal

pub returns : goal.returns
unfolding lister_output
returns g c =
    let read = c.in_ok-n.ensures in
    of_input (λ s. OnOk c.list.result (Appends (g.W.Write.contents c.args.to.now) (g.W.Write.contents c.list.new.to) (lines_of (book_check s) (network s))))
    _ _ c.read_full.new.block c.in_ok-n.n (omega arith) read.in_bounds.0 read.read read.whole c.list.ensures
