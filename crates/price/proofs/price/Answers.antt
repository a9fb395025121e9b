-- `price::price` meets its contract.
use Rattle.std.proofs.Common.{sym}
use Rattle.laws.proofs.Judging.{book_good}
use Rattle.outline.specs.Price.{answer_to, price_of}
use Rattle.outline.specs.Refusals.{◌and_then◌}
use Rattle.price.proofs.price.Goals as goal

pub invariant_of-book : goal.invariant_of-book
invariant_of-book c = record { laid_out = ((book_good _).0 (sym c.in-Ok.ensures)).laid_out }

pub invariant_of-price_on : goal.invariant_of-price_on
invariant_of-price_on c = record { valid = (book_good _).0 (sym c.in-Ok.ensures) }

pub returns-in-Ok : goal.returns-in-Ok
unfolding price_of ◌and_then◌
returns-in-Ok c = rw (← c.in-Ok.ensures) c.price_on.ensures

pub returns-in-Err : goal.returns-in-Err
unfolding price_of ◌and_then◌ answer_to
returns-in-Err c = rw (← c.in-Err.ensures) c.refused.ensures
