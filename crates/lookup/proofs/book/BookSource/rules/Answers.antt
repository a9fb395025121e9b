-- `lookup::book::Book` tells its rules.
use Rattle.std.proofs.Common.{sym, ◌∙◌}
use Rattle.outline.specs.Book.{network}
use Rattle.outline.specs.Network.{network_of}
use Rattle.laws.proofs.Reading.{network_rules}
use Rattle.lookup.proofs.book.BookSource.rules.Goals as goal

pub returns : goal.returns
unfolding network network_of
returns c = c.from.ensures ∙ c.rules.ensures ∙ sym (network_rules c.args.self.bytes.now)
