-- `telling::answers::put_places` meets its contract.
use Rattle.telling.proofs.Putting.{Put}
use Rattle.telling.proofs.answers.put_places.Given as goal

abbrev pub invariant-loop-i : goal.invariant-loop-i
invariant-loop-i l = Put l.fn.a.places l.initial.answer l.answer l.i
