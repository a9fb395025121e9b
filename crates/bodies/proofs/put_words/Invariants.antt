-- `bodies::put_words` meets its contract.
use mathlib.Core.Path.{◌≡◌}
use lib.ListN.{take}
use Rattle.outline.specs.Lending.{filled}
use Rattle.outline.specs.Writing.{bytes_of_words}
use Rattle.bodies.proofs.put_words.Given as goal

abbrev pub invariant-loop-i : goal.invariant-loop-i
invariant-loop-i l = l.book ≡ filled (bytes_of_words (take l.i l.from)) l.initial.book
