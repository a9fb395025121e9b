-- What a route that is priced must be.
use Rattle.std.specs.Prelude.{ℕ, List}
use Rattle.outline.specs.Book.{network}
use Rattle.outline.specs.Valid.{ValidBook}
use Rattle.routes.specs.declared.Route.{Route}
use Rattle.routes.specs.Held.{Held}

-- a route that is held, of a valid book
pub record Priceable (b : List ℕ) (r : Route) : Type 0 where
  pub valid : ValidBook b
  pub held : Held (network b) r
