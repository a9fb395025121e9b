-- `sheet_layout::sheet::Sheet` tells its rules.
use Rattle.std.proofs.Common.{sym, ◌∙◌}
use Rattle.laws.proofs.Sheet.{rules_in_lem}
use Rattle.sheet_layout.proofs.sheet.SheetSource.rules.Goals as goal

pub returns : goal.returns
returns c = c.rules.ensures ∙ sym (rules_in_lem _)
