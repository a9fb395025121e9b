-- `lookup::book::Book::rules` meets its contract.
use mathlib.Core.Path.{sym, ◌∙◌}
use Rattle.laws.proofs.Reading.{network_rules}
use Rattle.lookup.proofs.book.Book.rules.Goals as goal

pub returns : goal.returns
returns c = c.rules.ensures ∙ sym (network_rules _)
