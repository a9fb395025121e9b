-- `sheet_layout::sheet::Sheet` tells its rules.
use Rattle.std.proofs.Common.{◌≡◌, ◌+◌, sym, ◌∙◌, ap, arith}
use Rattle.outline.specs.Sheet.{rule_start, rule_in}
use Rattle.laws.proofs.Sheet.{rules_in_lem, rule_in_lem, rule_inside}
use Rattle.sheet_layout.proofs.sheet.SheetSource.rule.Goals as goal

pub invariant_of-rule : goal.invariant_of-rule
invariant_of-rule c =
    let inside = rule_inside _ c.args.self.laid_out _ (rw (rules_in_lem c.args.self.numbers.now) at c.requires) in
    omega (arith, c.args.self.rules_begin, c.rules_numbers.ensures.0)

pub returns : goal.returns
returns c =
    let at : c.args.self.first_rule + c.rules_numbers.result ≡ rule_start c.args.self.numbers.now c.args.k =
    omega (arith, c.args.self.rules_begin, c.rules_numbers.ensures.0)
    in
    c.rule.ensures ∙ ap (rule_in c.args.self.numbers.now) at ∙ sym (rule_in_lem _ _ (rw (rules_in_lem c.args.self.numbers.now) at c.requires))
