-- Which links and rules of a sheet have a byte wherever the book has one.
use Rattle.std.specs.Prelude.{ℕ, ◌<◌, List, ◌∷◌, ◌++◌, length, get_or}
use Rattle.outline.specs.declared.Link.{Link}
use Rattle.outline.specs.declared.Rule.{Rule}

pub record LinkBytes (l : Link) : Type 0 where
  pub company : l.one.company < 256
  pub station : l.one.number < 256
  pub other_company : l.other.company < 256
  pub other_station : l.other.number < 256

abbrev pub Small : List ℕ → Type 0
Small xs = (i : ℕ) → i < length xs → get_or xs i 0 < 256

pub record RuleBytes (r : Rule) : Type 0 where
  pub first : Small (r.rides ∷ r.companies)
  pub maps : Small (r.boarding ++ (r.alighting ++ r.permitted))
