-- `listing::put_stations` meets its contract.
use Rattle.listing.proofs.Putting.{put_joined}
use Rattle.listing.proofs.put_stations.Goals as goal

pub returns : goal.returns
returns c = put_joined 12 12 c.put_station-next.ensures c.put_station.ensures c.requires
