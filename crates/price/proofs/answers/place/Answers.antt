-- `price::answers::place` meets its contract.
use Rattle.price.proofs.Places.{place_used, place_unused}
use Rattle.selection.specs.Chosen.{runs_in}
use mathlib.Core.Path.{◌∙◌}
use Rattle.price.proofs.answers.place.Goals as goal

pub returns-then-n-i : goal.returns-then-n-i
returns-then-n-i c = c.no_ride.ensures ∙ place_unused c.args.route c.requires.0 (runs_in c.args.runs) c.args.i c.if-n-i.true

pub returns : goal.returns
returns c = place_used c.args.route c.requires.0 (runs_in c.args.runs) c.args.i _ c.paid_by.result c.if-n-i.false c.paid_by.ensures
