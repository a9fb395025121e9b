-- The best route so far, and what a part of the search does to it.
use Rattle.std.specs.Prelude.{◌<◌, ◌≡◌, ◌⊎◌, List, length, IfSome, IsSomeAnd}
use Rattle.outline.specs.declared.Leg.{Leg}
use Rattle.outline.specs.Lexical.{LexLe}
use Rattle.outline.specs.Network.{Network}
use Rattle.outline.specs.Routes.{bytes_of}
use Rattle.outline.specs.Price.{fare_of}
use Rattle.outline.specs.Questions.{NoLater}
use Rattle.routes.specs.Held.{rides_of, Held}
use Rattle.laws.specs.Rides.{AllGood}
use Rattle.best.specs.declared.Best.{Best}
use Rattle.best.specs.declared.Fared.{Fared}

-- a route of good rides, with its fare
pub record Priced (N : Network) (p : Fared) : Type 0 where
  pub held : Held N p.route
  pub good : AllGood N (rides_of p.route)
  pub fare : p.fare ≡ fare_of N (rides_of p.route)

-- what is held, if anything, is a route of good rides, with its fare
abbrev pub Sound : Network → Best → Type 0
Sound N b = IfSome b.found (Priced N)

-- b holds this route
abbrev pub Holds : Best → List Leg → Type 0
Holds b route = IsSomeAnd b.found (λ p. rides_of p.route ≡ route)

-- b holds a route that comes no later
abbrev pub Before : Network → Best → List Leg → Type 0
Before N b route = IsSomeAnd b.found (λ p. NoLater N (rides_of p.route) route)

-- c is the best of b and of the routes that have P
pub record Improves (N : Network) (b c : Best) (P : List Leg → Type 0) : Type 0 where
  pub sound : Sound N c
  pub origin : (route : List Leg) → Holds c route → Holds b route ⊎ P route
  pub keeps : (route : List Leg) → Before N b route → Before N c route
  pub beats : (route : List Leg) → P route → Before N c route

-- fewer rides, or as many and no greater bytes
abbrev pub NoLonger : List Leg → List Leg → Type 0
NoLonger s t = (length s < length t) ⊎ ((length s ≡ length t) × LexLe (bytes_of s) (bytes_of t))
