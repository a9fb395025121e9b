-- `lookup::book::Book::stations` meets its contract.
use mathlib.Core.Path.{sym, ◌∙◌}
use Rattle.laws.proofs.Reading.{known_company, company_in, company_starts, stations_at, network_stations}
use Rattle.lookup.proofs.book.Book.stations.Goals as goal

pub offset-requires : goal.offset-requires
offset-requires c =
    rw c.from.ensures (company_in _ c.args.self.laid_out _ (known_company _ _ c.requires)).listed

pub bounds-self-offset : goal.bounds-self-offset
bounds-self-offset c =
    rw (c.offset.ensures.0, c.from.ensures) (company_starts _ c.args.self.laid_out _ (known_company _ _ c.requires)).0

pub returns : goal.returns
returns c =
    let h = known_company _ _ c.requires in
    rw (c.offset.ensures.0, c.from.ensures) (sym (network_stations _ _ h ∙ stations_at _ _ (company_starts _ c.args.self.laid_out _ h).1))
