-- `search::ride` meets its contract.
use Rattle.search.proofs.Stepping.{arrived_reached, toward}
use Rattle.search.proofs.ride.Goals as goal

pub by_link-requires-clause-held : goal.by_link-requires-clause-held
by_link-requires-clause-held c = (c.requires.0, c.requires.1)

pub by_link-requires-clause-reached : goal.by_link-requires-clause-reached
by_link-requires-clause-reached c = arrived_reached _ _ c.args.at c.args.to _ c.requires.2

pub returns : goal.returns
returns c = toward _ _ _ _ _ c.if-at-to.false c.by_link.ensures
