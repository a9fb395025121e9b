-- `lookup::book::Book` tells its companies.
use Rattle.std.proofs.Common.{sym, ◌∙◌}
use Rattle.laws.proofs.Reading.{tables_count}
use Rattle.lookup.proofs.book.BookSource.companies.Goals as goal

pub returns : goal.returns
returns c = c.from.ensures ∙ c.companies.ensures ∙ sym (tables_count _)
