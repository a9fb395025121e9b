-- `best::order::no_longer` meets its contract.
use mathlib.Core.Path.{◌≡◌, sym, ◌∙◌}
use mathlib.Core.Logic.{inr}
use Rattle.std.proofs.lemmas.Cmp.{ranked}
use Rattle.best.proofs.Rides.{ride_some, no_greater, greater}
use Rattle.routes.specs.Held.{rides_of}
use Rattle.routes.proofs.Rides.{rides_length}
use Rattle.best.proofs.order.no_longer.Goals as goal

pub returns-in-Equal : goal.returns-in-Equal
returns-in-Equal c =
    let same : c.args.x.count ≡ c.args.y.count = rw c.in-Equal.is at (ranked c.args.x.count c.args.y.count c.cmp.result c.cmp.ensures) in
    let x = rides_length c.args.x c.requires.0 in
    let y = rides_length c.args.y c.requires.1 in
    record {
      yes = λ e. inr (x ∙ same ∙ sym y, no_greater _ ride_some (rides_of c.args.x) (rides_of c.args.y) _ c.le.ensures e);
      no = λ e. inr (y ∙ sym same ∙ sym x, greater _ ride_some (rides_of c.args.x) (rides_of c.args.y) _ c.le.ensures e);
    }
