-- `price::answers::fare` meets its contract.
use Rattle.price.proofs.Costs.{covered, small, fare_is}
use native.Mathlib.Omega.{arith}
use Rattle.price.proofs.answers.fare.Goals as goal

pub overflow_sub-result : goal.overflow_sub-result
overflow_sub-result c =
    let paid = c.sum-sum.ensures.0 _ c.requires in
    covered _ c.args.route (record { valid = c.args.good.valid; held = c.requires }) c.best-runs.result c.best-runs.ensures _ paid

pub overflow_cast-result : goal.overflow_cast-result
overflow_cast-result c =
    let paid = c.sum-sum.ensures.0 _ c.requires in
    let few = small _ c.args.route (record { valid = c.args.good.valid; held = c.requires }) c.best-runs.result c.best-runs.ensures _ paid in
    omega arith

pub returns : goal.returns
returns c =
    let paid = c.sum-sum.ensures.0 _ c.requires in
    fare_is _ c.args.route (record { valid = c.args.good.valid; held = c.requires }) c.best-runs.result c.best-runs.ensures _ paid
