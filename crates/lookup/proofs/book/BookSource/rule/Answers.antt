-- `lookup::book::Book` tells its rules.
use Rattle.std.proofs.Common.{◌∙◌, arith}
use Rattle.outline.specs.Book.{network}
use Rattle.outline.specs.Network.{network_of}
use Rattle.laws.proofs.Reading.{network_rules}
use Rattle.lookup.proofs.book.BookSource.rule.Goals as goal

pub overflow_cast-k : goal.overflow_cast-k
unfolding network network_of
overflow_cast-k c = let few = c.args.self.laid_out.header.rules in omega (arith, c.requires, network_rules c.args.self.bytes.now)

pub rule_bytes-requires : goal.rule_bytes-requires
unfolding network network_of
rule_bytes-requires c = c.requires

pub returns : goal.returns
unfolding network network_of
returns c = c.rule.ensures ∙ c.rule_bytes.ensures
