-- `selection::best_rule` meets its contract.
use Rattle.choice.proofs.Rules.{rule_again}
use Rattle.selection.specs.Chosen.{earn_in}
use Rattle.outline.specs.Choosing.{best_rule}
use native.Mathlib.Omega.{arith}
use mathlib.Core.Path.{◌≡◌, refl, ap, ◌∙◌}
use Rattle.selection.proofs.best_rule.Goals as goal

pub loop-k-init : goal.loop-k-init
unfolding best_rule
loop-k-init c = refl

pub loop-k-preserved : goal.loop-k-preserved
loop-k-preserved c = rule_again _ c.loop-k.k c.loop-k.best c.or_rule-best.result _ c.loop-k.invariant c.earns-saving.ensures c.or_rule-best.ensures

pub returns : goal.returns
returns c =
    let s = c.args in
    let all : c.loop-k.k ≡ c.rules-k-end.result = omega arith in
    c.loop-k.invariant ∙ ap (best_rule (earn_in s.part.book.bytes.now s.part.route s.part.first s.part.rides)) (all ∙ c.rules-k-end.ensures)
