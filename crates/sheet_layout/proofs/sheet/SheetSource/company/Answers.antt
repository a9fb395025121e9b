-- `sheet_layout::sheet::Sheet` tells its companies' numbers.
use Rattle.std.proofs.Common.{◌+◌, ℕ, get_or, sym, ap, arith}
use Rattle.outline.specs.Sheet.{fare_index}
use Rattle.outline.specs.SheetJudging.{entry_index}
use Rattle.laws.proofs.Sheet.{companies_in_lem, table_in_lem}
use Rattle.sheet_layout.proofs.sheet.SheetSource.company.Goals as goal

pub company_start-requires : goal.company_start-requires
company_start-requires c = λ d h. c.args.self.laid_out.companies d (omega (arith, companies_in_lem c.args.self.numbers.now, c.requires))

pub invariant_of-result : goal.invariant_of-result
invariant_of-result c =
    let w = c.args.self.laid_out.companies c.args.c (omega (arith, companies_in_lem c.args.self.numbers.now, c.requires)) in
    record { inside = rw c.company_start.ensures w.inside }

pub returns-clause-says : goal.returns-clause-says
returns-clause-says c = rw c.company_start.ensures (sym (table_in_lem _ _ (rw (companies_in_lem c.args.self.numbers.now) at c.requires)))

pub returns-clause-stands : goal.returns-clause-stands
unfolding entry_index
returns-clause-stands c =
    let places : ℕ → ℕ → ℕ → ℕ = λ at i j. at + fare_index (get_or c.args.self.numbers.now at 0) i j in
    ap places c.company_start.ensures
