-- `rules::judge` meets its contract.
use Rattle.std.proofs.Common.{sym, ◌∙◌, arith}
use Rattle.laws.proofs.Firsts.{demand_holds, demand_fails, first_more, first_is, first_ends}
use Rattle.outline.specs.Network.{network_of}
use Rattle.outline.specs.Judging.{rule_check}
use Rattle.rules.proofs.judge.Goals as goal

pub returns-then-not-good_rule : goal.returns-then-not-good_rule
unfolding rule_check network_of
returns-then-not-good_rule g c =
    rw c.from.ensures (sym (first_is _ _ _ _ c.loop-k.invariant (omega arith) (demand_fails _ _ _ (rw c.rule.ensures at (sym c.good_rule.ensures ∙ c.if-not-good_rule.true)))))

pub loop-k-preserved : goal.loop-k-preserved
unfolding rule_check network_of
loop-k-preserved g c = first_more _ _ c.loop-k.invariant (demand_holds _ _ _ (rw c.rule.ensures at (sym c.good_rule.ensures ∙ c.if-not-good_rule.false)))

pub returns : goal.returns
unfolding network_of
returns g c = first_ends _ _ _ (omega arith) c.loop-k.invariant
