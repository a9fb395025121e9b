-- `matching::part::Part::judge_ends` meets its contract.
use Rattle.matching.proofs.Runs.{first_in, last_in, boards_is, alights_is}
use Rattle.outline.specs.Matching.{unless}
use mathlib.Core.Path.{◌∙◌}
use Rattle.matching.proofs.part.Part.judge_ends.Goals as goal

pub in_map-requires : goal.in_map-requires
in_map-requires c = first_in c.args.self _ c.requires _ _ c.rule_boarding.ensures

pub returns-then-not-in_map : goal.returns-then-not-in_map
unfolding unless
returns-then-not-in_map c = rw (boards_is c.args.self _ c.requires _ _ c.rule_boarding.ensures _ c.in_map.ensures ∙ c.if-not-in_map.true)

pub in_map-requires-2 : goal.in_map-requires-2
in_map-requires-2 c = last_in c.args.self _ c.requires _ _ c.rule_alighting.ensures

pub returns-then-not-in_map-2 : goal.returns-then-not-in_map-2
unfolding unless
returns-then-not-in_map-2 c =
    let boards = boards_is c.args.self _ c.requires _ _ c.rule_boarding.ensures _ c.in_map.ensures ∙ c.if-not-in_map.false in
    rw (boards, alights_is c.args.self _ c.requires _ _ c.rule_alighting.ensures _ c.in_map-2.ensures ∙ c.if-not-in_map-2.true)

pub returns : goal.returns
unfolding unless
returns c =
    let boards = boards_is c.args.self _ c.requires _ _ c.rule_boarding.ensures _ c.in_map.ensures ∙ c.if-not-in_map.false in
    let alights = alights_is c.args.self _ c.requires _ _ c.rule_alighting.ensures _ c.in_map-2.ensures ∙ c.if-not-in_map-2.false in
    rw (boards, alights) c.judge_cost.ensures
