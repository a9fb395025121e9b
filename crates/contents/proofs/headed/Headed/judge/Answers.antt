-- `contents::headed::Headed::judge` meets its contract.
use Rattle.laws.proofs.Firsts.{then_after, then_handed_on}
use Rattle.outline.specs.Judging.{contents_check}
use Rattle.contents.proofs.headed.Headed.judge.Goals as goal

pub returns-in_err-judge_companies : goal.returns-in_err-judge_companies
unfolding contents_check
returns-in_err-judge_companies c = then_handed_on _ _ _ c.in_err-judge_companies.ensures c.from_residual.ensures.1

pub returns-in_err-judge_list : goal.returns-in_err-judge_list
unfolding contents_check
returns-in_err-judge_list c =
    let links = rw (c.from-n.ensures, c.companies.ensures, c.links_length.ensures, c.links.ensures) at c.in_err-judge_list.ensures in
    then_after _ _ _ c.in_ok-judge_companies.ensures (then_handed_on _ _ _ links c.from_residual-in_err-judge_list.ensures.1)

pub returns-in_err-judge_list-2 : goal.returns-in_err-judge_list-2
unfolding contents_check
returns-in_err-judge_list-2 c =
    let links = rw (c.from-n.ensures, c.companies.ensures, c.links_length.ensures, c.links.ensures) at c.in_ok-judge_list.ensures in
    let rules = rw (c.from-n.ensures, c.companies.ensures, c.rules_length.ensures, c.rules.ensures) at c.in_err-judge_list-2.ensures in
    then_after _ _ _ c.in_ok-judge_companies.ensures (then_after _ _ _ links (then_handed_on _ _ _ rules c.from_residual-in_err-judge_list-2.ensures.1))

pub returns : goal.returns
unfolding contents_check
returns c =
    let links = rw (c.from-n.ensures, c.companies.ensures, c.links_length.ensures, c.links.ensures) at c.in_ok-judge_list.ensures in
    let rules = rw (c.from-n.ensures, c.companies.ensures, c.rules_length.ensures, c.rules.ensures) at c.in_ok-judge_list-2.ensures in
    then_after _ _ _ c.in_ok-judge_companies.ensures (then_after _ _ _ links (then_after _ _ _ rules c.judge_end.ensures))
