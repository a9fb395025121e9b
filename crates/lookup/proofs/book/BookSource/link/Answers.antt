-- `lookup::book::Book` tells its links.
use Rattle.std.proofs.Common.{◌∙◌, arith}
use Rattle.outline.specs.Book.{network}
use Rattle.outline.specs.Network.{network_of}
use Rattle.outline.specs.Sheet.{link_in}
use Rattle.laws.proofs.Reading.{link_fits, link_read, links_few}
use Rattle.lookup.proofs.book.BookSource.link.Goals as goal

pub overflow_cast-k : goal.overflow_cast-k
unfolding network network_of
overflow_cast-k c = let few = links_few _ c.args.self.laid_out in omega (arith, c.requires)

pub link-link-requires : goal.link-link-requires
unfolding network network_of
link-link-requires c = rw c.links_body.ensures (link_fits _ c.args.self.laid_out _ c.requires)

pub returns : goal.returns
unfolding link_in network network_of
returns c = rw (c.from.ensures, c.from-2.ensures, c.from-3.ensures, c.from-4.ensures) (c.link-link.ensures ∙ link_read _ _ _ c.links_body.ensures c.requires)
