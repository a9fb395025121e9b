-- Document 01, "Routes": rides, changes, admissible routes, and a given route judged.
use Rattle.std.specs.Prelude.{ℕ, ◌+◌, ◌-◌, ◌*◌, ◌/◌, ◌<◌, ◌≡◌, Bool, true, false, not, Option, Some, None, List, [], ◌∷◌, length, get_or, take, ltb, eqb, Ok}
use Rattle.outline.specs.declared.Station.{Station}
use Rattle.outline.specs.declared.Leg.{Leg}
use Rattle.outline.specs.declared.Refusal.TheVariants.{BadRide}
use Rattle.outline.specs.Numbers.{most_rides}
use Rattle.outline.specs.Tests.{both, either, some_below, Within, list_of}
use Rattle.outline.specs.Refusals.{demand, first_below, Judged}
use Rattle.outline.specs.Network.{Network, same_station, joins, link_between}

-- ---- rides and changes

abbrev pub boarded_at : Leg → Station
boarded_at l = record { company = l.company; number = l.boarding }

abbrev pub alighted_at : Leg → Station
alighted_at l = record { company = l.company; number = l.alighting }

abbrev pub entry_for : Network → Leg → Option ℕ
entry_for N l = N.entry l.company l.boarding l.alighting

-- "A ride is a company and two different stations of it with an entry above 0."
pub record Exists (N : Network) (l : Leg) : Type 0 where
  pub company : l.company < N.companies
  pub boarding : l.boarding < N.stations l.company
  pub alighting : l.alighting < N.stations l.company
  pub different : l.boarding ≡ l.alighting → ⊥
  pub sold : entry_for N l ≡ None → ⊥

-- "A change is one link, from the station alighted at to the station boarded at."
pub record Change (N : Network) (from to : Station) : Type 0 where
  pub link : ℕ
  pub known : link < N.links
  pub joined : joins (N.link link) from to ≡ true

-- ---- routes

-- ride i of a route; beyond its end the bytes of a place not used
abbrev pub no_ride : Leg
no_ride = record { company = 255; boarding = 255; alighting = 255 }

abbrev pub ride_at : List Leg → ℕ → Leg
ride_at route i = get_or route i no_ride

-- "all boarding and alighting stations, both ends included"
unfoldable pub stations_of : List Leg → List Station
stations_of [] = []
stations_of (l ∷ route) = boarded_at l ∷ alighted_at l ∷ stations_of route

-- "no station occurs twice"
abbrev pub Distinct : List Station → Type 0
Distinct stations = (i j : ℕ) → i < j → j < length stations → get_or stations i (boarded_at no_ride) ≡ get_or stations j (boarded_at no_ride) → ⊥

-- "A route is admissible if it has 1 to 4 rides and no station occurs twice among all boarding and alighting stations, both ends included."
pub record Admissible (N : Network) (route : List Leg) : Type 0 where
  pub few : Within 1 (length route) most_rides
  pub rides : (i : ℕ) → i < length route → Exists N (ride_at route i)
  pub changes : (i : ℕ) → i + 1 < length route → Change N (alighted_at (ride_at route i)) (boarded_at (ride_at route (i + 1)))
  pub once : Distinct (stations_of route)

-- the link that is walked after ride i
unfoldable pub link_after : Network → List Leg → ℕ → Option ℕ
link_after N route i = link_between N (alighted_at (ride_at route i)) (boarded_at (ride_at route (i + 1)))

-- "A given route is 3 bytes per ride: company, boarding, alighting station."
unfoldable pub bytes_of : List Leg → List ℕ
bytes_of [] = []
bytes_of (l ∷ route) = l.company ∷ l.boarding ∷ l.alighting ∷ bytes_of route

abbrev pub given_ride : List ℕ → ℕ → Leg
given_ride bytes i = record { company = get_or bytes (3 * i) 0; boarding = get_or bytes (3 * i + 1) 0; alighting = get_or bytes (3 * i + 2) 0 }

unfoldable pub route_of : List ℕ → List Leg
route_of bytes = list_of (given_ride bytes) (length bytes / 3)

-- ---- a given route judged

unfoldable pub is_sold : Option ℕ → Bool
is_sold None = false
is_sold (Some yen) = true

-- "a ride is bad if it doesn't exist"
unfoldable pub exists : Network → Leg → Bool
exists N l =
    both (ltb l.company N.companies)
    (both (ltb l.boarding (N.stations l.company))
    (both (ltb l.alighting (N.stations l.company))
    (both (not (eqb l.boarding l.alighting))
    (is_sold (entry_for N l)))))

unfoldable pub is_link : Option ℕ → Bool
is_link (Some k) = true
is_link None = false

-- "can't be reached by a link from the ride before"
unfoldable pub reached : Network → List Leg → Leg → Bool
reached N before l = either (eqb (length before) 0) (is_link (link_between N (alighted_at (ride_at before (length before - 1))) (boarded_at l)))

-- "or brings a station already met"
unfoldable pub met : Leg → Station → Bool
met earlier x = either (same_station (boarded_at earlier) x) (same_station (alighted_at earlier) x)

unfoldable pub meets : Leg → Leg → Bool
meets earlier l = either (met earlier (boarded_at l)) (met earlier (alighted_at l))

unfoldable pub repeats : List Leg → Leg → Bool
repeats before l = some_below (λ j. meets (ride_at before j) l) (length before)

-- a ride that is not bad, after those before it
unfoldable pub good_next : Network → List Leg → Leg → Bool
good_next N before l = both (exists N l) (both (reached N before l) (not (repeats before l)))

unfoldable pub ride_check : Network → List Leg → ℕ → Judged
ride_check N route i = demand (good_next N (take i route) (ride_at route i)) (BadRide i) (Ok tt)

-- "a length that isn't 3, 6, 9 or 12 is place 0"
unfoldable pub good_length : ℕ → Bool
good_length n = either (eqb n 3) (either (eqb n 6) (either (eqb n 9) (eqb n 12)))

-- 14: "given route not admissible", at the "first bad ride"
unfoldable pub route_check : Network → List ℕ → Judged
route_check N bytes =
    demand (good_length (length bytes)) (BadRide 0)
    (first_below (ride_check N (route_of bytes)) (length (route_of bytes)))
