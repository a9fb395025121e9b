-- `listing::put_station` meets its contract.
use Rattle.outline.specs.Lister.{station_fields}
use Rattle.listing.proofs.Putting.{put_joined}
use Rattle.listing.proofs.put_station.Goals as goal

pub returns : goal.returns
unfolding station_fields
returns c = put_joined 6 6 (rw c.from.ensures at c.put_field-next.ensures) (rw c.from-2.ensures at c.put_field.ensures) c.requires
