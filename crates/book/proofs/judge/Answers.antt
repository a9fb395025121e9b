-- `book::judge` meets its contract.
use Rattle.std.proofs.Common.{sym}
use Rattle.laws.proofs.Firsts.{then_after, then_handed_on}
use Rattle.laws.proofs.Judging.{header_good, contents_good}
use Rattle.outline.specs.Judging.{fares_check, book_check}
use Rattle.book.proofs.judge.Goals as goal

pub returns-in_err-judge_header : goal.returns-in_err-judge_header
unfolding book_check
returns-in_err-judge_header c = then_handed_on _ _ _ c.in_err-judge_header.ensures c.from_residual.ensures.1

pub invariant_of-judge : goal.invariant_of-judge
invariant_of-judge c = record { header = header_good _ (sym c.in_ok-judge_header.ensures) }

pub returns-in_err-judge : goal.returns-in_err-judge
unfolding book_check
returns-in_err-judge c = then_after _ _ _ c.in_ok-judge_header.ensures (then_handed_on _ _ _ c.in_err-judge.ensures c.from_residual-in_err-judge.ensures.1)

pub invariant_of-book : goal.invariant_of-book
invariant_of-book c = record { laid_out = contents_good _ (header_good _ (sym c.in_ok-judge_header.ensures)) (sym c.in_ok-judge.ensures) }

pub returns-in_err-judge-2 : goal.returns-in_err-judge-2
unfolding book_check fares_check
returns-in_err-judge-2 c =
    then_after _ _ _ c.in_ok-judge_header.ensures
    (then_after _ _ _ c.in_ok-judge.ensures
    (then_handed_on _ _ _ c.in_err-judge-2.ensures c.from_residual-in_err-judge-2.ensures.1))

pub returns-in_err-judge-3 : goal.returns-in_err-judge-3
unfolding book_check fares_check
returns-in_err-judge-3 c =
    then_after _ _ _ c.in_ok-judge_header.ensures
    (then_after _ _ _ c.in_ok-judge.ensures
    (then_after _ _ _ c.in_ok-judge-2.ensures
    (then_handed_on _ _ _ c.in_err-judge-3.ensures c.from_residual-in_err-judge-3.ensures.1)))

pub returns : goal.returns
unfolding book_check fares_check
returns c =
    then_after _ _ _ c.in_ok-judge_header.ensures
    (then_after _ _ _ c.in_ok-judge.ensures
    (then_after _ _ _ c.in_ok-judge-2.ensures
    (then_after _ _ _ c.in_ok-judge-3.ensures
    c.judge-4.ensures)))
