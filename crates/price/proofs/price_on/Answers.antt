-- `price::price_on` meets its contract.
use Rattle.outline.specs.Book.{network}
use Rattle.outline.specs.Price.{answer_to, answer_of}
use mathlib.Core.Path.{ap, ◌∙◌}
use Rattle.price.proofs.price_on.Goals as goal

pub answer-requires : goal.answer-requires
answer-requires c = c.in-Ok.ensures.held

pub returns-in-Ok : goal.returns-in-Ok
unfolding answer_to
returns-in-Ok c = rw c.in-Ok.ensures.good (c.answer.ensures ∙ ap (answer_of (network c.args.good.book.bytes.now)) c.in-Ok.ensures.is)

pub returns-in-Err : goal.returns-in-Err
unfolding answer_to
returns-in-Err c = rw c.in-Err.ensures c.refused.ensures
