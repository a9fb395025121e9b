-- `matching::part::Part::judge_cost` meets its contract.
use Rattle.outline.specs.Matching.{unless}
use borrow.Author.Tests.{le-ltb, lt-ltb}
use mathlib.Core.Path.{sym, ◌∙◌}
use Rattle.matching.proofs.part.Part.judge_cost.Goals as goal

pub returns-then-not-permits_all : goal.returns-then-not-permits_all
unfolding unless
returns-then-not-permits_all c = rw (sym c.permits_all.ensures ∙ c.if-not-permits_all.true)

pub returns-then-self-from : goal.returns-then-self-from
unfolding unless
returns-then-self-from c =
    let holds = sym c.permits_all.ensures ∙ c.if-not-permits_all.false in
    rw (holds, ← c.args.self.paid, ← c.rule_amount-amount.ensures, ← c.from.ensures, le-ltb _ _ c.if-self-from.true)

pub returns : goal.returns
unfolding unless
returns c =
    let holds = sym c.permits_all.ensures ∙ c.if-not-permits_all.false in
    let dearer = rw c.from.ensures at (lt-ltb _ _ c.if-self-from.false) in
    rw (holds, ← c.args.self.paid, ← c.rule_amount-amount.ensures, dearer)
