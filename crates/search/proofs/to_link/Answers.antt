-- `search::to_link` meets its contract.
use Rattle.search.proofs.to_link.Goals as goal

pub returns : goal.returns
returns c = rw (← c.link.ensures, ← c.near_end-near.ensures) c.ride.ensures
