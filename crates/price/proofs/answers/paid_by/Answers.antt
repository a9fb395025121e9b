-- `price::answers::paid_by` meets its contract.
use Rattle.price.proofs.Places.{paid_none, paid_one, paid_two}
use native.Mathlib.Omega.{arith}
use mathlib.Core.Path.{◌∙◌}
use Rattle.price.proofs.answers.paid_by.Goals as goal

pub returns-then-s-eq0 : goal.returns-then-s-eq0
returns-then-s-eq0 c = paid_none _ _ _ _ c.if-s-eq0.true

pub returns-then-s-eq1 : goal.returns-then-s-eq1
returns-then-s-eq1 c = let s = c.args.s in c.paid_in.ensures ∙ paid_one s.count s.one s.two _ c.if-s-eq1.true

pub returns : goal.returns
returns c = let s = c.args.s in c.paid_in-3.ensures ∙ paid_two s.count s.one s.two _ _ (omega arith) c.paid_in-2.ensures
