-- `selection::best` meets its contract.
use Rattle.selection.proofs.Fronts.{sound_two, few_none, of_count}
use Rattle.routes.proofs.Rides.{rides_length}
use Rattle.routes.specs.Held.{rides_of}
use Rattle.outline.specs.Price.{runs_of}
use lib.ListN.{length}
use Rattle.selection.specs.Chosen.{earn_in}
use Prim.Native.Nat.{◌<◌}
use native.Mathlib.Omega.{arith}
use mathlib.Core.Path.{◌≡◌, sym, ◌∙◌}
use Rattle.selection.proofs.best.Goals as goal

pub returns-in-0 : goal.returns-in-0
unfolding runs_of
returns-in-0 c =
    let long = rides_length c.args.route c.requires.sized in
    let short : length (rides_of c.args.route) < 2 = omega arith in
    let none = c.none.ensures (earn_in c.args.book.bytes.now c.args.route) in
    record { sound = sound_two _ none; is = none.is ∙ sym (few_none _ _ _ 0 short) }

pub returns-in-2 : goal.returns-in-2
unfolding runs_of
returns-in-2 c = of_count _ _ 1 _ 2 _ (rides_length c.args.route c.requires.sized ∙ c.in-2.is) c.best_of_two.ensures

pub returns-in-3 : goal.returns-in-3
unfolding runs_of
returns-in-3 c = of_count _ _ 2 _ 3 _ (rides_length c.args.route c.requires.sized ∙ c.in-3.is) c.best_of_three.ensures

pub returns-in_default : goal.returns-in_default
unfolding runs_of
returns-in_default c =
    let all : c.args.route.count ≡ 4 = omega (arith, c.requires.sized.few) in
    of_count _ _ 2 _ 4 _ (rides_length c.args.route c.requires.sized ∙ all) c.best_of_four.ensures
