-- The lines from a station, and those to the stations of one company as they are put.
use Rattle.std.specs.Prelude.{ℕ, List, []}
use Rattle.outline.specs.declared.Station.{Station}
use Rattle.outline.specs.Tests.{choose, in_order}
use Rattle.outline.specs.Network.{Network, same_station}
use Rattle.outline.specs.Listing.{of_each}
use Rattle.outline.specs.Lister.{station, pair_of, pairs_from, pair_line}

-- the same station twice has no line
unfoldable pub line_to : Network → Station → Station → List ℕ
line_to N x y = choose (same_station x y) [] (pair_line N (pair_of x y))

unfoldable pub lines_to : Network → Station → ℕ → List ℕ
lines_to N x c = in_order (λ j. line_to N x (station c j)) (N.stations c)

abbrev pub lines_from : Network → Station → List ℕ
lines_from N x = of_each (pair_line N) (pairs_from N x)
