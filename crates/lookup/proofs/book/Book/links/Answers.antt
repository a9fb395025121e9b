-- `lookup::book::Book::links` meets its contract.
use mathlib.Core.Path.{sym, ◌∙◌}
use Rattle.laws.proofs.Reading.{network_links}
use Rattle.lookup.proofs.book.Book.links.Goals as goal

pub returns : goal.returns
returns c = c.links.ensures ∙ sym (network_links _)
