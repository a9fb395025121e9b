-- `listing::put_line` meets its contract.
use Rattle.outline.specs.Lister.{line_of}
use Rattle.listing.proofs.Putting.{put_joined}
use Rattle.listing.proofs.put_line.Goals as goal

pub returns : goal.returns
unfolding line_of
returns c = put_joined 24 12 c.put_stations-fare.ensures c.put_answer.ensures c.requires
