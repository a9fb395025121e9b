-- `price::answers::paid_in` meets its contract.
use Rattle.outline.specs.Price.{belongs}
use Rattle.outline.specs.Tests.{both, choose}
use borrow.Author.Tests.{le-ltb, lt-ltb, le-leb, lt-leb}
use Prim.Native.Nat.{◌+◌, ◌≤◌, ◌<◌}
use native.Mathlib.Omega.{arith}
use Rattle.price.proofs.answers.paid_in.Goals as goal

pub returns-then-i-run : goal.returns-then-i-run
unfolding choose belongs both
returns-then-i-run c = rw (lt-leb _ _ c.if-i-run.true)

pub returns-then-i-run-2 : goal.returns-then-i-run-2
unfolding choose belongs both
returns-then-i-run-2 c =
    let a = c.args in
    let within : a.i < a.run.first + a.run.rides = omega arith in
    rw (le-leb _ _ c.if-i-run.false, lt-ltb _ _ within)

pub returns : goal.returns
unfolding choose belongs both
returns c =
    let a = c.args in
    let past : a.run.first + a.run.rides ≤ a.i = omega arith in
    rw (le-leb _ _ c.if-i-run.false, le-ltb _ _ past)
