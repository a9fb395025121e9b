-- `price::answers::answer` meets its contract.
use Rattle.price.proofs.Places.{answer_is}
use Rattle.routes.proofs.Rides.{rides_length}
use mathlib.Core.Path.{sym}
use Rattle.price.proofs.answers.answer.Goals as goal

pub returns : goal.returns
returns c =
    answer_is _ _ _ _ _ _ _ _ _ c.fare.ensures (sym (rides_length c.args.route c.requires.sized)) c.best-runs.ensures.is
    c.place.ensures c.place-2.ensures c.place-3.ensures c.place-4.ensures
