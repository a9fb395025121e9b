-- `sheet_layout::table::Table` tells its entries.
use Rattle.std.proofs.Common.{sym, arith}
use Rattle.outline.specs.Sheet.{table_in}
use Rattle.laws.proofs.Reading.{cell}
use Rattle.laws.proofs.Sheet.{fare_in}
use Rattle.sheet_layout.proofs.table.TableCompany.entry.Goals as goal

pub bounds-self-place : goal.bounds-self-place
unfolding table_in
bounds-self-place c = let inside = c.args.self.inside in let cell = cell _ _ _ c.requires.0 c.requires.1 in omega (arith, c.place.ensures)

pub returns : goal.returns
unfolding table_in
returns c = rw c.place.ensures (sym (fare_in _ _ _ _ c.requires.0 c.requires.1))
