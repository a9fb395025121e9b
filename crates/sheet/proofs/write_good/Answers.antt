-- `sheet::write_good` meets its contract.
use native.Mathlib.Omega.{arith}
use Rattle.std.proofs.Common.{Ok, length}
use mathlib.Core.Path.{◌≡◌, ap, ◌∙◌}
use Rattle.laws.proofs.Sheet.{sheet_good}
use Rattle.outline.specs.Sheet.{fares_in}
use Rattle.outline.specs.Writing.{book_of}
use Rattle.outline.specs.Lending.{write_answer, write_leaves}
use Rattle.filling.proofs.Answers.{answers_wrote}
use Rattle.sheet.proofs.write_good.Goals as goal

pub new-sheet-requires : goal.new-sheet-requires
new-sheet-requires c = ((sheet_good _).0 c.requires).laid_out

pub fill-requires : goal.fill-requires
fill-requires c = (rw c.new-sheet.ensures ((sheet_good _).0 c.requires), omega arith)

pub returns : goal.returns
unfolding write_answer write_leaves
returns c =
    let s = c.args.sheet.now in
    let same = c.new-sheet.ensures in
    let bytes : c.book_length-bytes.result ≡ length (book_of (fares_in s)) = rw same at c.book_length-bytes.ensures in
    let w = answers_wrote _ (book_of (fares_in s)) c.args.book.now c.requires (omega arith) in
    record { value = ap Ok bytes ∙ w.0; book_after = rw same at c.fill.ensures ∙ w.1 }
