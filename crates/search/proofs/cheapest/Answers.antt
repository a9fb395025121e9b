-- `search::cheapest` meets its contract.
use Rattle.std.proofs.Common.{sym}
use Rattle.laws.proofs.Firsts.{then_good}
use Rattle.laws.proofs.Judging.{book_good}
use Rattle.outline.specs.Questions.{AnswerTo, Asked}
use Rattle.search.proofs.cheapest.Goals as goal

pub invariant_of-book : goal.invariant_of-book
invariant_of-book c = record { laid_out = ((book_good _).0 (then_good _ _ (sym c.in-Ok.ensures)).0).laid_out }

pub invariant_of-ask : goal.invariant_of-ask
invariant_of-ask c = record { valid = (book_good _).0 (then_good _ _ (sym c.in-Ok.ensures)).0 }

pub ask-requires : goal.ask-requires
ask-requires c = (then_good _ _ (sym c.in-Ok.ensures)).1

pub returns-in-Ok : goal.returns-in-Ok
unfolding Asked AnswerTo
returns-in-Ok c = rw (← c.in-Ok.ensures) c.ask.ensures

pub returns-in-Err : goal.returns-in-Err
unfolding Asked AnswerTo
returns-in-Err c = rw (← c.in-Err.ensures) c.refused.ensures
