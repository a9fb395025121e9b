-- `lookup::book::Book` tells its companies' bodies.
use Rattle.std.proofs.Common.{◌+◌, ℕ, List, ap, ap₂, sym, ◌∙◌}
use Rattle.outline.specs.Book.{station_count, entry_place, body_of}
use Rattle.outline.specs.Judging.{entry_offset}
use Rattle.layout.specs.Bodies.{CompanySized}
use Rattle.laws.proofs.Reading.{company_in, company_long, known_table, table_of_company}
use Rattle.lookup.proofs.book.BookSource.company.Goals as goal

pub body-requires-clause-listed : goal.body-requires-clause-listed
body-requires-clause-listed c = rw c.from.ensures (company_in _ c.args.self.laid_out _ (known_table _ _ c.requires)).listed

pub body-requires-clause-e_in_bounds : goal.body-requires-clause-e_in_bounds
body-requires-clause-e_in_bounds c = rw c.from.ensures (company_in _ c.args.self.laid_out _ (known_table _ _ c.requires)).inside

pub offset-requires : goal.offset-requires
offset-requires c = rw c.from-2.ensures (company_in _ c.args.self.laid_out _ (known_table _ _ c.requires)).listed

pub invariant_of-result : goal.invariant_of-result
invariant_of-result c =
    let w = c.args.self.laid_out in
    let h = known_table _ _ c.requires in
    let sized : CompanySized c.body.result.now = rw (c.body.ensures.result_value, c.from.ensures) (record { long = company_long _ w _ h; few = (w.companies _ h).stations.to }) in
    record { sized = sized }

pub returns-clause-says : goal.returns-clause-says
returns-clause-says c = rw (c.body.ensures.result_value, c.from.ensures) (sym (table_of_company _ _ c.requires))

pub returns-clause-stands : goal.returns-clause-stands
unfolding entry_offset
returns-clause-stands c =
    let body = c.body.ensures.result_value ∙ ap (body_of c.args.self.bytes.now) c.from.ensures in
    let start = rw c.from-2.ensures at c.offset.ensures.0 in
    let places : List ℕ → ℕ → ℕ → ℕ → ℕ = λ s o i j. o + entry_place (station_count s) i j in
    ap₂ places body start
