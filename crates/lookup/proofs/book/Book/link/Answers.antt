-- `lookup::book::Book::link` meets its contract.
use mathlib.Core.Path.{◌∙◌}
use Rattle.laws.proofs.Reading.{link_fits, link_read}
use Rattle.lookup.proofs.book.Book.link.Goals as goal

pub link-requires : goal.link-requires
link-requires c =
    rw c.links_body.ensures (link_fits _ c.args.self.laid_out _ c.requires)

pub returns : goal.returns
returns c = c.link.ensures ∙ link_read _ _ _ c.links_body.ensures c.requires
