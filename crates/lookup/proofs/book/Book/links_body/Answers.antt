-- `lookup::book::Book::links_body` meets its contract.
use Rattle.laws.proofs.Reading.{links_in_lem}
use Rattle.lookup.proofs.book.Book.links_body.Goals as goal

pub body-requires : goal.body-requires
body-requires c =
    let w = links_in_lem _ c.args.self.laid_out in
    rw (c.from.ensures, c.companies.ensures) (record { listed = w.listed; e_in_bounds = w.inside })

pub returns : goal.returns
returns c = rw (c.from.ensures, c.companies.ensures) at c.body.ensures.result_value
