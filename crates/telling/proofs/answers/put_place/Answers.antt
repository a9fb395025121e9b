-- `telling::answers::put_place` meets its contract.
use native.Mathlib.Omega.{arith}
use lib.ListN.{length-set}
use Rattle.telling.specs.Answers.{place_numbers}
use Rattle.filling.proofs.Filled.{four_stores}
use Rattle.telling.proofs.answers.put_place.Goals as goal

pub bounds-answer-1 : goal.bounds-answer-1
bounds-answer-1 c = simp length-set (omega arith)

pub bounds-answer-2 : goal.bounds-answer-2
bounds-answer-2 c = simp length-set (omega arith)

pub returns : goal.returns
unfolding place_numbers
returns c = rw (c.from.ensures, c.from-2.ensures, c.from-3.ensures, c.paid_number.ensures) (four_stores _ _ _ _ _ c.requires)
