-- `routes::given::judge` meets its contract.
use Rattle.routes.proofs.Turns.{count_is, turn_good, turn_bad, turn_more, read_length, read_bad, read_good}
use Rattle.std.proofs.lemmas.Result.{err_from_is_err_and}
use Rattle.laws.proofs.Given.{whole_is, route_length, route_at}
use Rattle.laws.proofs.Firsts.{first_more}
use Rattle.outline.specs.Routes.{route_of}
use Rattle.outline.specs.declared.Refusal.TheVariants.{BadRide}
use Rattle.outline.specs.Refusals.{first_below}
use lib.ListN.{length}
use Prim.Native.Nat.{◌≤◌, ◌<◌}
use native.Mathlib.Omega.{arith}
use mathlib.Core.Path.{◌≡◌, refl, sym, ◌∙◌}
use Rattle.routes.proofs.given.judge.Goals as goal

pub returns-then-not-good_length : goal.returns-then-not-good_length
returns-then-not-good_length c = read_length _ _ (sym c.good_length.ensures ∙ c.if-not-good_length.true)

pub loop-i-init : goal.loop-i-init
unfolding first_below
loop-i-init c = (c.empty-route.ensures.0 _, c.empty-route.ensures.1, refl)

pub then-longer-requires : goal.then-longer-requires
then-longer-requires c =
    let whole = (whole_is _).0 (sym c.good_length.ensures ∙ c.if-not-good_length.false) in
    let inv = c.loop-i.invariant in
    let long = route_length c.args.bytes.now in
    let inside : c.loop-i.i ≤ length (route_of c.args.bytes.now) = omega arith in
    let count = count_is _ (route_of c.args.bytes.now) _ _ inv.0 inv.1 inside in
    (inv.0, omega (arith, whole.few.to))

pub returns-in_err-route : goal.returns-in_err-route
returns-in_err-route c =
    let inv = c.loop-i.invariant in
    let long = route_length c.args.bytes.now in
    let inside : c.loop-i.i < length (route_of c.args.bytes.now) = omega arith in
    let ride = c.ride.ensures ∙ sym (route_at c.args.bytes.now _ c.loop-i-test.true) in
    let p = err_from_is_err_and c.from_residual.result c.from_residual.ensures.1 in
    let bad = rw c.in_err-route.ensures.ok_part at c.then-longer.ensures in
    let turn = turn_bad _ _ _ _ inv.0 inv.1 _ inside ride bad in
    let found = read_bad _ _ (sym c.good_length.ensures ∙ c.if-not-good_length.false) _ inv.2 inside turn in
    let told = rw c.in_err-route.ensures.ok_part at c.in_err-route.ensures.value in
    let refusal : c.in_err-route.field-0.0 ≡ BadRide c.loop-i.i = grind arith in
    rw (p.1, p.2, refusal) found

pub loop-i-preserved : goal.loop-i-preserved
loop-i-preserved c =
    let inv = c.loop-i.invariant in
    let long = route_length c.args.bytes.now in
    let inside : c.loop-i.i < length (route_of c.args.bytes.now) = omega arith in
    let ride = c.ride.ensures ∙ sym (route_at c.args.bytes.now _ c.loop-i-test.true) in
    let good = rw c.in_ok-route.ensures.ok_part at c.then-longer.ensures in (
      good.held,
      turn_more _ _ _ _ inv.0 inv.1 _ inside ride _ good,
      first_more _ _ inv.2 (turn_good _ _ _ _ inv.0 inv.1 _ inside ride good.good),
    )

pub returns : goal.returns
returns c =
    let inv = c.loop-i.invariant in
    let long = route_length c.args.bytes.now in
    let all : c.loop-i.i ≡ length (route_of c.args.bytes.now) = omega arith in
    read_good _ _ (sym c.good_length.ensures ∙ c.if-not-good_length.false) _ inv.2 _ all inv.0 inv.1
