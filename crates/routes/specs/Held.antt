-- A route as the code holds it: its rides, what each costs, and the link by which each but the first is reached.
use Rattle.std.specs.Prelude.{ℕ, ◌+◌, ◌-◌, ◌≤◌, ◌<◌, ◌≡◌, true, false, Option, Some, None, Result, Ok, Err, List, [], ◌∷◌, ◌++◌, length, get_or, take, set}
use Rattle.outline.specs.declared.Leg.{Leg}
use Rattle.outline.specs.declared.Refusal.{Refusal}
use Rattle.outline.specs.Numbers.{most_rides}
use Rattle.outline.specs.Tests.{choose}
use Rattle.outline.specs.Network.{Network, link_between}
use Rattle.outline.specs.Routes.{entry_for, Exists, exists, ride_at, boarded_at, alighted_at, link_after, is_link, reached, good_next, route_of, route_check}
use Rattle.routes.specs.declared.Route.{Route}

abbrev pub rides_of : Route → List Leg
rides_of r = take r.count r.legs

pub record Sized (r : Route) : Type 0 where
  pub legs : length r.legs ≡ most_rides
  pub fares : length r.fares ≡ most_rides
  pub links : length r.links ≡ most_rides
  pub few : r.count ≤ most_rides

pub record Held (N : Network) (r : Route) : Type 0 where
  pub sized : Sized r
  pub exist : (i : ℕ) → i < r.count → Exists N (ride_at r.legs i)
  pub fares : (i : ℕ) → i < r.count → entry_for N (ride_at r.legs i) ≡ Some (get_or r.fares i 0)
  pub links : (i : ℕ) → i + 1 < r.count → link_after N r.legs i ≡ Some (get_or r.links (i + 1) 0)

-- with one more ride
abbrev pub pushed : Route → Leg → ℕ → ℕ → Route
pushed r l fare link = record {
  legs = set r.legs r.count l;
  fares = set r.fares r.count fare;
  links = set r.links r.count link;
  count = r.count + 1;
}

-- what a ride costs, where it exists
abbrev pub sold_for : Network → Leg → Option ℕ
sold_for N l = choose (exists N l) (entry_for N l) None

-- the link by which ride l is reached after those before it; the first needs none
pub record Reached (N : Network) (before : List Leg) (l : Leg) (r : Option ℕ) : Type 0 where
  pub test : is_link r ≡ reached N before l
  pub walked : 0 < length before → r ≡ link_between N (alighted_at (ride_at before (length before - 1))) (boarded_at l)

-- s is r with ride l after its rides, and that ride is good
pub record Longer (N : Network) (r : Route) (l : Leg) (s : Route) : Type 0 where
  pub good : good_next N (rides_of r) l ≡ true
  pub held : Held N s
  pub more : rides_of s ≡ rides_of r ++ (l ∷ [])

-- r with ride l after its rides, where that ride is good
abbrev pub Extended : Network → Route → Leg → Option Route → Type 0
Extended N r l (Some s) = Longer N r l s
Extended N r l None = good_next N (rides_of r) l ≡ false

-- the given bytes are good, and these are their rides
pub record Given (N : Network) (bytes : List ℕ) (r : Route) : Type 0 where
  pub good : route_check N bytes ≡ Ok tt
  pub held : Held N r
  pub is : rides_of r ≡ route_of bytes

-- the rides of the given bytes, where they are good, or what is refused of them
abbrev pub Read : Network → List ℕ → Result Route Refusal → Type 0
Read N bytes (Ok r) = Given N bytes r
Read N bytes (Err x) = route_check N bytes ≡ Err x
