-- `sheet_layout::sheet::Sheet` tells its links.
use Rattle.std.proofs.Common.{sym, ◌∙◌}
use Rattle.laws.proofs.Sheet.{links_in_lem}
use Rattle.sheet_layout.proofs.sheet.SheetSource.links.Goals as goal

pub returns : goal.returns
returns c = c.links.ensures ∙ sym (links_in_lem _)
