-- `routes::Route::then` meets its contract.
use Rattle.routes.proofs.Rides.{reach_none, bad_reached}
use Rattle.routes.proofs.Route.then.Goals as goal

pub returns-in_err-link : goal.returns-in_err-link
returns-in_err-link c = rw c.from_residual.ensures (bad_reached _ _ _ (reach_none _ _ _ _ c.reach.ensures c.in_err-link.was))
