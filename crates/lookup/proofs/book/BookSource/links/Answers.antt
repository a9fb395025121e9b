-- `lookup::book::Book` tells its links.
use Rattle.std.proofs.Common.{sym, ◌∙◌}
use Rattle.outline.specs.Book.{network}
use Rattle.outline.specs.Network.{network_of}
use Rattle.laws.proofs.Reading.{network_links}
use Rattle.lookup.proofs.book.BookSource.links.Goals as goal

pub returns : goal.returns
unfolding network network_of
returns c = c.from.ensures ∙ c.links.ensures ∙ sym (network_links c.args.self.bytes.now)
