-- `sheet_layout::sheet::Sheet` tells its companies.
use Rattle.std.proofs.Common.{sym, ◌∙◌}
use Rattle.laws.proofs.Sheet.{companies_in_lem}
use Rattle.sheet_layout.proofs.sheet.SheetSource.companies.Goals as goal

pub returns : goal.returns
returns c = c.companies.ensures ∙ sym (companies_in_lem _)
