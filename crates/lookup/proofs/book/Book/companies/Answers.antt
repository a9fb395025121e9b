-- `lookup::book::Book::companies` meets its contract.
use mathlib.Core.Path.{sym, ◌∙◌}
use Rattle.laws.proofs.Reading.{network_companies}
use Rattle.lookup.proofs.book.Book.companies.Goals as goal

pub returns : goal.returns
returns c = c.companies.ensures ∙ sym (network_companies _)
