-- `routes::Route::by_link` meets its contract.
use mathlib.Core.Path.{sym, ◌∙◌}
use Rattle.routes.proofs.Rides.{not_sold, extended, bad_exists, bad_repeats}
use Rattle.routes.proofs.Route.by_link.Goals as goal

pub returns-in_err-fare : goal.returns-in_err-fare
returns-in_err-fare c = rw c.from_residual.ensures (bad_exists _ _ _ (not_sold _ _ (sym c.sold.ensures ∙ c.in_err-fare.was)))

pub returns-then-repeats : goal.returns-then-repeats
returns-then-repeats c = bad_repeats _ _ _ (sym c.repeats.ensures ∙ c.if-repeats.true)

pub returns : goal.returns
returns c =
    let p = c.requires in
    rw c.push.ensures (extended _ _ _ p.held.0 p.held.1 _ _ (sym c.sold.ensures ∙ c.in_ok-fare.was) p.reached (sym c.repeats.ensures ∙ c.if-repeats.false))
