-- `lookup::book::Book::entry` meets its contract.
use mathlib.Core.Path.{sym, ap, ◌∙◌}
use Prim.Native.Nat.{ℕ}
use Rattle.laws.proofs.Reading.{known_company, company_in, company_long, network_stations, network_entry}
use Rattle.outline.specs.Book.{table_of}
use Rattle.outline.specs.Fares.{fare_at}
use Rattle.outline.specs.Network.{entry_of}
use mathlib.Core.List.{List}
use Rattle.lookup.proofs.book.Book.entry.Goals as goal

pub body-table-requires : goal.body-table-requires
body-table-requires c =
    let p = c.requires in
    let w = company_in _ c.args.self.laid_out _ (known_company _ _ p.company_bound) in
    rw c.from.ensures (record { listed = w.listed; e_in_bounds = w.inside })

pub fare-requires : goal.fare-requires
fare-requires c =
    let p = c.requires in
    let h = known_company _ _ p.company_bound in
    let e = rw c.from.ensures at c.body-table.ensures.result_value in
    let s = network_stations c.args.self.bytes.now c.args.company h in
    rw e (record { long = company_long _ c.args.self.laid_out _ h; few = (c.args.self.laid_out.companies _ h).stations.to }, rw s at p.boarding_bound.0, rw s at p.boarding_bound.1)

pub returns : goal.returns
returns c =
    let a = c.args in
    let e = rw c.from.ensures at c.body-table.ensures.result_value in
    c.entry_of.ensures
    ∙ ap entry_of (c.fare.ensures ∙ ap (λ (s : List ℕ). fare_at (table_of s) a.boarding a.alighting) e)
    ∙ sym (network_entry _ _ a.boarding a.alighting (known_company _ _ c.requires.company_bound))
