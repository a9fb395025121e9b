-- `price::answers::refused` meets its contract.
use Rattle.outline.specs.Price.{refused_answer}
use Rattle.price.proofs.answers.refused.Goals as goal

pub returns : goal.returns
unfolding refused_answer
returns c = rw c.no_ride-none.ensures
