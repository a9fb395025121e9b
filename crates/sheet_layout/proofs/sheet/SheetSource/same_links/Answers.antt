-- `sheet_layout::sheet::Sheet` compares its links.
use Rattle.std.proofs.Common.{◌≡◌, rules, IsTrue, ◌↔◌}
use Rattle.laws.proofs.Judging.{links_alike}
use Rattle.sheet_layout.proofs.sheet.SheetSource.same_links.Goals as goal

pub returns : goal.returns
returns c = let same : IsTrue c.eq.result ↔ (c.link-x.result ≡ c.link-y.result) = search rules in rw (c.link-x.ensures, c.link-y.ensures) at (links_alike _ _ (search rules) (search rules) _ same)
