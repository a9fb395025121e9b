-- `sheet_check::judge` meets its contract.
use Rattle.std.proofs.Common.{sym}
use Rattle.laws.proofs.Firsts.{then_after, then_handed_on}
use Rattle.laws.proofs.Sheet.{counts_good, companies_good, laid_good}
use Rattle.outline.specs.Judging.{fares_check}
use Rattle.outline.specs.SheetJudging.{sheet_check}
use Rattle.sheet_check.proofs.judge.Goals as goal

pub returns-in_err-judge_counts : goal.returns-in_err-judge_counts
unfolding sheet_check
returns-in_err-judge_counts c = then_handed_on _ _ _ c.in_err-judge_counts.ensures c.from_residual.ensures.1

pub judge_companies-requires : goal.judge_companies-requires
judge_companies-requires c = counts_good _ (sym c.in_ok-judge_counts.ensures)

pub returns-in_err-judge_companies : goal.returns-in_err-judge_companies
unfolding sheet_check
returns-in_err-judge_companies c = then_after _ _ _ c.in_ok-judge_counts.ensures (then_handed_on _ _ _ c.in_err-judge_companies.ensures c.from_residual-in_err-judge_companies.ensures.1)

pub judge_end-requires-clause-good_counts : goal.judge_end-requires-clause-good_counts
judge_end-requires-clause-good_counts c = counts_good _ (sym c.in_ok-judge_counts.ensures)

pub judge_end-requires-clause-by_index : goal.judge_end-requires-clause-by_index
judge_end-requires-clause-by_index c = companies_good _ _ (sym c.in_ok-judge_companies.ensures)

pub returns-in_err-judge_end : goal.returns-in_err-judge_end
unfolding sheet_check
returns-in_err-judge_end c =
    then_after _ _ _ c.in_ok-judge_counts.ensures
    (then_after _ _ _ c.in_ok-judge_companies.ensures
    (then_handed_on _ _ _ c.in_err-judge_end.ensures c.from_residual-in_err-judge_end.ensures.1))

pub new-sheet-requires : goal.new-sheet-requires
new-sheet-requires c = laid_good _ (counts_good _ (sym c.in_ok-judge_counts.ensures)) (companies_good _ _ (sym c.in_ok-judge_companies.ensures)) (sym c.in_ok-judge_end.ensures)

pub returns-in_err-judge : goal.returns-in_err-judge
unfolding sheet_check fares_check
returns-in_err-judge c =
    then_after _ _ _ c.in_ok-judge_counts.ensures
    (then_after _ _ _ c.in_ok-judge_companies.ensures
    (then_after _ _ _ c.in_ok-judge_end.ensures
    (then_handed_on _ _ _ (rw c.new-sheet.ensures at c.in_err-judge.ensures) c.from_residual-in_err-judge.ensures.1)))

pub returns-in_err-judge-2 : goal.returns-in_err-judge-2
unfolding sheet_check fares_check
returns-in_err-judge-2 c =
    then_after _ _ _ c.in_ok-judge_counts.ensures
    (then_after _ _ _ c.in_ok-judge_companies.ensures
    (then_after _ _ _ c.in_ok-judge_end.ensures
    (then_after _ _ _ (rw c.new-sheet.ensures at c.in_ok-judge.ensures)
    (then_handed_on _ _ _ (rw c.new-sheet.ensures at c.in_err-judge-2.ensures) c.from_residual-in_err-judge-2.ensures.1))))

pub returns : goal.returns
unfolding sheet_check fares_check
returns c =
    then_after _ _ _ c.in_ok-judge_counts.ensures
    (then_after _ _ _ c.in_ok-judge_companies.ensures
    (then_after _ _ _ c.in_ok-judge_end.ensures
    (then_after _ _ _ (rw c.new-sheet.ensures at c.in_ok-judge.ensures)
    (then_after _ _ _ (rw c.new-sheet.ensures at c.in_ok-judge-2.ensures)
    (rw c.new-sheet.ensures at c.judge-3.ensures)))))
