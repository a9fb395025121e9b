-- Routes of which each ride is good, whatever their length.
use Rattle.std.specs.Prelude.{ℕ, ◌<◌, ◌≡◌, true, List, length, take}
use Rattle.outline.specs.declared.Leg.{Leg}
use Rattle.outline.specs.Network.{Network}
use Rattle.outline.specs.Routes.{ride_at, good_next}

-- each ride is good after those before it
abbrev pub AllGood : Network → List Leg → Type 0
AllGood N route = (i : ℕ) → i < length route → good_next N (take i route) (ride_at route i) ≡ true
