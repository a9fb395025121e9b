-- `lookup::book::Book` compares its links.
use Rattle.std.proofs.Common.{arith}
use Rattle.outline.specs.Book.{network}
use Rattle.outline.specs.Network.{network_of}
use Rattle.laws.proofs.Reading.{links_few}
use Rattle.lookup.proofs.book.BookSource.same_links.Goals as goal

pub overflow_cast-j : goal.overflow_cast-j
unfolding network network_of
overflow_cast-j c = let few = links_few _ c.args.self.laid_out in omega (arith, c.requires)

pub overflow_cast-k : goal.overflow_cast-k
unfolding network network_of
overflow_cast-k c = let few = links_few _ c.args.self.laid_out in omega (arith, c.requires)
