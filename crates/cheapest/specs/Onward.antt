-- Routes that go on from the rides a search has come by.
use Rattle.std.specs.Prelude.{ℕ, ◌+◌, ◌≤◌, ◌<◌, ◌≡◌, true, List, [], ◌∷◌, ◌++◌, eqb, length, take}
use Rattle.outline.specs.declared.Station.{Station}
use Rattle.outline.specs.declared.Link.{Link}
use Rattle.outline.specs.declared.Leg.{Leg}
use Rattle.outline.specs.Tests.{choose}
use Rattle.outline.specs.Network.{Network}
use Rattle.outline.specs.Routes.{ride_at, boarded_at, good_next}
use Rattle.outline.specs.Questions.{end_of}
use Rattle.laws.specs.Rides.{AllGood}

-- the route begins with the rides p, goes on by 1 to `left` more, the first of them from x, and ends at the goal
pub record From (N : Network) (goal : Station) (left : ℕ) (p : List Leg) (x : Station) (route : List Leg) : Type 0 where
  pub good : AllGood N route
  pub begins : take (length p) route ≡ p
  pub more : length p < length route
  pub few : length route ≤ length p + left
  pub boards : boarded_at (ride_at route (length p)) ≡ x
  pub ends : end_of route ≡ goal

-- the ride of x's company from x to its station y
abbrev pub ride_to : Station → Station → Leg
ride_to x y = record { company = x.company; boarding = x.number; alighting = y.number }

-- the end of a link that is a station of the company, and the other end
unfoldable pub near_end : Link → ℕ → Station
near_end l company = choose (eqb l.one.company company) l.one l.other

unfoldable pub far_end : Link → ℕ → Station
far_end l company = choose (eqb l.one.company company) l.other l.one

-- the ride from x to the goal ends the route
pub record Direct (N : Network) (goal : Station) (p : List Leg) (x : Station) (route : List Leg) : Type 0 where
  pub company : x.company ≡ goal.company
  pub good : good_next N p (ride_to x goal) ≡ true
  pub is : p ++ (ride_to x goal ∷ []) ≡ route

-- the route goes on by the ride from x to the near end of link k, and over that link
pub record Over (N : Network) (goal : Station) (left : ℕ) (p : List Leg) (x : Station) (k : ℕ) (route : List Leg) : Type 0 where
  pub company : x.company ≡ (near_end (N.link k) x.company).company
  pub good : good_next N p (ride_to x (near_end (N.link k) x.company)) ≡ true
  pub onward : From N goal left (p ++ (ride_to x (near_end (N.link k) x.company) ∷ [])) (far_end (N.link k) x.company) route

-- some number below n has Q
pub record SomeBelow (n : ℕ) (Q : ℕ → Type 0) : Type 0 where
  pub at : ℕ
  pub below : at < n
  pub holds : Q at
