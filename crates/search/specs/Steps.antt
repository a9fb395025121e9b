-- The steps of the search, and the routes that each goes through.
use Rattle.std.specs.Prelude.{ℕ, ◌+◌, ◌-◌, ◌≤◌, ◌<◌, ◌≡◌, Bool, true, false, Option, Some, None, List, [], ◌∷◌, ◌++◌, length, get_or, ltb, eqb}
use Rattle.outline.specs.declared.Station.{Station}
use Rattle.outline.specs.declared.Link.{Link}
use Rattle.outline.specs.declared.Leg.{Leg}
use Rattle.outline.specs.Numbers.{most_rides}
use Rattle.outline.specs.Tests.{both, either}
use Rattle.outline.specs.Network.{Network, link_between}
use Rattle.outline.specs.Book.{network}
use Rattle.outline.specs.Routes.{ride_at, alighted_at, good_next}
use Rattle.routes.specs.Held.{rides_of, Held}
use Rattle.routes.specs.declared.Route.{Route}
use Rattle.laws.specs.Rides.{AllGood}
use Rattle.cheapest.specs.Onward.{ride_to, near_end, far_end}
use Rattle.best.specs.declared.Best.{Best}
use Rattle.best.specs.Kept.{Sound}

-- the rides p have come to station x by this link; before the first ride there is none
abbrev pub Arrived : Network → List Leg → Station → ℕ → Type 0
Arrived N p x link = 0 < length p → link_between N (alighted_at (ride_at p (length p - 1))) x ≡ Some link

-- s is the path with the ride from x to y after its rides, and that is a good ride of their company
pub record Onto (N : Network) (path : Route) (x y : Station) (s : Route) : Type 0 where
  pub company : x.company ≡ y.company
  pub good : good_next N (rides_of path) (ride_to x y) ≡ true
  pub held : Held N s
  pub more : rides_of s ≡ rides_of path ++ (ride_to x y ∷ [])

-- the path with the ride from x to y after its rides, where that is a good ride of their company
abbrev pub Toward : Network → Route → Station → Station → Option Route → Type 0
Toward N path x y (Some s) = Onto N path x y s
Toward N path x y None = x.company ≡ y.company → good_next N (rides_of path) (ride_to x y) ≡ true → ⊥

-- the rides p have alighted at the near end of link k
pub record Alighted (N : Network) (p : List Leg) (k : ℕ) : Type 0 where
  pub some : 0 < length p
  pub known : k < N.links
  pub there : alighted_at (ride_at p (length p - 1)) ≡ near_end (N.link k) (ride_at p (length p - 1)).company

-- the station at the other end of link k
abbrev pub beyond : Network → List Leg → ℕ → Station
beyond N p k = far_end (N.link k) (ride_at p (length p - 1)).company

-- what a step of the search is given
pub record Ready (b : List ℕ) (path : Route) (left : ℕ) (best : Best) : Type 0 where
  pub held : Held (network b) path
  pub good : AllGood (network b) (rides_of path)
  pub some : 1 ≤ left
  pub room : path.count + left ≤ most_rides
  pub sound : Sound (network b) best

-- link l has an end in the company
unfoldable pub touches : Link → ℕ → Bool
touches l company = either (eqb l.one.company company) (eqb l.other.company company)

-- no link from `from` on and before r has an end in the company
pub record Skip (N : Network) (company from r : ℕ) : Type 0 where
  pub later : from ≤ r
  pub few : r ≤ N.links
  pub passed : (k : ℕ) → from ≤ k → k < r → touches (N.link k) company ≡ false

-- from which link to look on for one with an end in the company, for each link and for the number of links
pub record Skips (N : Network) (company : ℕ) (skips : List ℕ) : Type 0 where
  pub long : N.links < length skips
  pub next : (k : ℕ) → k ≤ N.links → Skip N company k (get_or skips k 0)

-- link l has an end in the company and, where only one ride may follow it, the other end in the goal's company
unfoldable pub leads_on : Link → ℕ → Station → ℕ → Bool
leads_on l company goal left = both (eqb (near_end l company).company company) (either (ltb 2 left) (eqb (far_end l company).company goal.company))

-- no link from `from` on and before r leads on
abbrev pub Passed : Network → ℕ → Station → ℕ → ℕ → ℕ → Type 0
Passed N company goal left from r = (k : ℕ) → from ≤ k → k < r → leads_on (N.link k) company goal left ≡ false

-- r is the first link from `from` on that leads on
pub record NextLink (N : Network) (company : ℕ) (goal : Station) (left from r : ℕ) : Type 0 where
  pub later : from ≤ r
  pub known : r < N.links
  pub passed : Passed N company goal left from r
  pub leads : leads_on (N.link r) company goal left ≡ true

-- the first link from `from` on that leads on, or none
abbrev pub FirstOn : Network → ℕ → Station → ℕ → ℕ → Option ℕ → Type 0
FirstOn N company goal left from (Some r) = NextLink N company goal left from r
FirstOn N company goal left from None = Passed N company goal left from N.links
