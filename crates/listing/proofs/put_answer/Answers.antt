-- `listing::put_answer` meets its contract.
use Rattle.outline.specs.Lister.{answer_fields}
use Rattle.listing.proofs.Putting.{put_joined}
use Rattle.listing.proofs.put_answer.Goals as goal

pub returns : goal.returns
unfolding answer_fields
returns c = put_joined 6 6 c.put_fare-rides.ensures (rw c.from.ensures at c.put_field.ensures) c.requires
