-- `matching::part::Part::permits_all` meets its contract.
use Rattle.matching.proofs.Runs.{run_length, run_link_known, run_permits}
use Rattle.laws.proofs.Reading.{rule_sized, links_few}
use Rattle.laws.proofs.Tests.{all_more, all_stops}
use Rattle.matching.specs.Runs.{run_in}
use Rattle.outline.specs.Matching.{permitted}
use Rattle.outline.specs.Tests.{all_below}
use lib.ListN.{length}
use Prim.Native.Nat.{◌+◌, ◌-◌, ◌<◌}
use native.Mathlib.Omega.{arith}
use mathlib.Core.Path.{◌≡◌, refl, sym, ◌∙◌}
use Rattle.matching.proofs.part.Part.permits_all.Goals as goal

pub loop-i-init : goal.loop-i-init
unfolding all_below
loop-i-init c = refl

pub in_map-requires : goal.in_map-requires
in_map-requires c =
    let p = c.args.self in
    let known = run_link_known _ c.args.self.route p.held c.args.self.first c.args.self.rides p.inside.ends c.loop-i.i c.loop-i.auto.i c.loop-i-test.true in
    rw c.rule_permitted-map.ensures (omega (arith, (rule_sized _ c.args.self.book.laid_out _ c.requires).permitted, links_few _ c.args.self.book.laid_out, known))

pub returns-then-not-in_map : goal.returns-then-not-in_map
unfolding permitted
returns-then-not-in_map c =
    let p = c.args.self in
    let long = run_length c.args.self.route p.held.sized c.args.self.first c.args.self.rides p.inside.ends in
    let inside : c.loop-i.i - 1 < length (run_in c.args.self.route c.args.self.first c.args.self.rides) - 1 = omega arith in
    sym (all_stops _ _ (c.loop-i.i - 1) inside
    (run_permits _ c.args.self.route p.held c.args.self.first c.args.self.rides p.inside.ends _ c.loop-i.i c.loop-i.auto.i c.loop-i-test.true
    ∙ sym (rw c.rule_permitted-map.ensures at c.in_map.ensures)
    ∙ c.if-not-in_map.true))

pub loop-i-preserved : goal.loop-i-preserved
loop-i-preserved c =
    let p = c.args.self in
    let e : c.loop-i.i - 1 + 1 ≡ c.loop-i.i + 1 - 1 = omega arith in
    rw (← e) (all_more _ _ c.loop-i.invariant
    (run_permits _ c.args.self.route p.held c.args.self.first c.args.self.rides p.inside.ends _ c.loop-i.i c.loop-i.auto.i c.loop-i-test.true
    ∙ sym (rw c.rule_permitted-map.ensures at c.in_map.ensures)
    ∙ c.if-not-in_map.false))

pub returns : goal.returns
unfolding permitted
returns c =
    let p = c.args.self in
    let long = run_length c.args.self.route p.held.sized c.args.self.first c.args.self.rides p.inside.ends in
    let all : c.loop-i.i - 1 ≡ length (run_in c.args.self.route c.args.self.first c.args.self.rides) - 1 = omega (arith, p.inside.some) in
    sym (rw all at c.loop-i.invariant)
