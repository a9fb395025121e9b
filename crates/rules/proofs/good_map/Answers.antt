-- `rules::good_map` meets its contract.
use Rattle.std.proofs.Common.{rules, ℕ, get_or, ltb, sym, ◌∙◌, arith}
use Rattle.std.proofs.lemmas.Bool.{ltb-true}
use Rattle.outline.specs.Tests.{both}
use Rattle.outline.specs.Judging.{good_map}
use Rattle.laws.proofs.Tests.{all_true}
use Rattle.laws.proofs.Judging.{map_holds, map_stops}
use Rattle.rules.proofs.Maps.{more_items, none_at_zero}
use Rattle.rules.proofs.good_map.Goals as goal
use Rattle.rules.proofs.good_map.Goals.{else-map-k-ne0-via-then-map-k-ne0+else-holds_some, else-map-k-ne0-via-else-map-k-ne0}

pub returns-then-not-are_bytes : goal.returns-then-not-are_bytes
unfolding good_map both
returns-then-not-are_bytes c = rw (sym c.are_bytes.ensures ∙ c.if-not-are_bytes.true)

pub returns-then-holds_some : goal.returns-then-holds_some
returns-then-holds_some c =
    let held = c.holds_some.ensures.some c.if-holds_some.true in
    sym (map_stops _ _ held.0 (omega (arith, held.2)) (omega (arith, held.1)) held.3)

pub loop-k-preserved : goal.loop-k-preserved
loop-k-preserved c =
    elim c.else-map-k-ne0.branch [
      | else-map-k-ne0-via-then-map-k-ne0+else-holds_some w ↦ more_items _ _ _ c.loop-k.invariant (λ i h m l. w.holds_some.ensures.none w.if-holds_some.false i (omega arith) (omega arith))
      | else-map-k-ne0-via-else-map-k-ne0 w ↦ more_items _ _ _ c.loop-k.invariant (λ i h m l. none_at_zero _ _ _ (search rules) m l)
    ]

pub returns : goal.returns
returns c = sym (map_holds _ _ (record {
  bytes = λ i l. ltb-true _ _ (all_true (λ (i : ℕ). ltb (get_or c.args.map.now i 0) 256) _ (sym c.are_bytes.ensures ∙ c.if-not-are_bytes.false) i l);
  beyond = λ i h l. c.loop-k.invariant i (omega arith) (omega arith);
}))
