-- `bodies::put_entry` meets its contract.
use native.Mathlib.Omega.{arith}
use mathlib.Core.Path.{refl}
use Rattle.outline.specs.Writing.{two_bytes}
use Rattle.filling.proofs.Filled.{filled_lent}
use Rattle.bodies.proofs.put_entry.Goals as goal

pub returns : goal.returns
unfolding two_bytes
returns c = filled_lent (two_bytes c.args.offset) (two_bytes c.args.long) c.args.book.now _ _ 2 c.put_word.ensures refl (omega (arith, c.requires.2)) c.put_word-2.ensures
