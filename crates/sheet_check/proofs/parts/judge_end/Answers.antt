-- `sheet_check::parts::judge_end` meets its contract.
use Rattle.std.proofs.Common.{◌≡◌, length, arith}
use Rattle.std.proofs.lemmas.Bool.{eq-eqb}
use Rattle.outline.specs.Refusals.{demand}
use Rattle.outline.specs.Sheet.{rules_in, rule_start}
use Rattle.outline.specs.SheetJudging.{remainder_check}
use Rattle.laws.proofs.Sheet.{start_inside}
use Rattle.sheet_check.proofs.parts.judge_end.Goals as goal

pub company_start-changes-requires : goal.company_start-changes-requires
company_start-changes-requires c = λ d h. c.requires.by_index d (omega arith)

pub overflow_sub-sheet : goal.overflow_sub-sheet
overflow_sub-sheet c = let w = start_inside _ _ c.requires.good_counts.present c.requires.by_index in omega (arith, rw c.companies.ensures at c.company_start-changes.ensures)

pub returns : goal.returns
unfolding remainder_check demand
returns c =
    let w = start_inside _ _ c.requires.good_counts.present c.requires.by_index in
    let e = rw c.companies.ensures at c.company_start-changes.ensures in
    let long : rule_start c.args.sheet.now (rules_in c.args.sheet.now) ≡ length c.args.sheet.now = omega (arith, c.links_numbers-discounts.ensures.0, c.links.ensures, c.rules.ensures, c.rules_numbers-rest.ensures.0, c.if-sheet-changes.false) in
    rw (eq-eqb _ _ long)
