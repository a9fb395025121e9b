-- `rules::good_companies` meets its contract.
use Rattle.std.proofs.Common.{◌≡◌, refl, sym, ◌∙◌, arith}
use Rattle.laws.proofs.Tests.{all_more, all_stops}
use Rattle.outline.specs.Tests.{all_below}
use Rattle.rules.proofs.good_companies.Goals as goal

pub loop-i-init : goal.loop-i-init
unfolding all_below
loop-i-init c = refl

pub returns-then-not-good_company : goal.returns-then-not-good_company
returns-then-not-good_company c = sym (all_stops _ _ _ (omega arith) (sym c.good_company.ensures ∙ c.if-not-good_company.true))

pub loop-i-preserved : goal.loop-i-preserved
loop-i-preserved c = all_more _ _ c.loop-i.invariant (sym c.good_company.ensures ∙ c.if-not-good_company.false)

pub returns : goal.returns
returns c =
    let e : c.loop-i.i ≡ 4 = omega arith in
    sym (rw e at c.loop-i.invariant)
