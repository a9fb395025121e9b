-- What the functions on the contents and on a company's body ask of them.
use Rattle.std.specs.Prelude.{ℕ, ◌+◌, ◌*◌, ◌≤◌, ◌≡◌, List, length}
use Rattle.outline.specs.Numbers.{most_stations}
use Rattle.outline.specs.Book.{station_count, company_length}

-- entry e of the contents is in the book
abbrev pub Listed : List ℕ → ℕ → Type 0
Listed b e = 4 + 4 * e + 4 ≤ length b

-- a company's body, of the length that its stations ask for
pub record CompanySized (body : List ℕ) : Type 0 where
  pub long : length body ≡ company_length (station_count body)
  pub few : station_count body ≤ most_stations
