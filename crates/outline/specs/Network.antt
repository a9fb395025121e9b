-- The network: all that routes, prices and the search speak of.
use Rattle.std.specs.Prelude.{ℕ, zero, suc, Bool, Option, Some, None, eqb, length, get_or}
use Rattle.outline.specs.declared.Station.{Station}
use Rattle.outline.specs.declared.Link.{Link}
use Rattle.outline.specs.Tests.{both, either, choose}
use Rattle.outline.specs.declared.Rule.{Rule}
use Rattle.outline.specs.Fares.{Fares, fare_at, table_at, no_link, no_rule}

pub record Network : Type 0 where
  pub companies : ℕ
  pub stations : ℕ → ℕ
  pub entry : ℕ → ℕ → ℕ → Option ℕ  -- of a company, from a boarding to an alighting station: the fare in yen, where a ride is sold
  pub links : ℕ
  pub link : ℕ → Link
  pub rules : ℕ
  pub rule : ℕ → Rule

-- "a table entry of 0 means that no ride is sold"
unfoldable pub entry_of : ℕ → Option ℕ
entry_of zero = None
entry_of (suc x) = Some (suc x)

unfoldable pub network_of : Fares → Network
network_of F = record {
  companies = length F.tables;
  stations = λ c. (table_at F c).stations;
  entry = λ c i j. entry_of (fare_at (table_at F c) i j);
  links = length F.links;
  link = λ k. get_or F.links k no_link;
  rules = length F.rules;
  rule = λ k. get_or F.rules k no_rule;
}

unfoldable pub same_station : Station → Station → Bool
same_station x y = both (eqb x.company y.company) (eqb x.number y.number)

-- from x to y, as the link is written
unfoldable pub leads : Link → Station → Station → Bool
leads l x y = both (same_station l.one x) (same_station l.other y)

-- "A link can be walked either way."
unfoldable pub joins : Link → Station → Station → Bool
joins l x y = either (leads l x y) (leads l y x)

unfoldable pub or_else : Option ℕ → Option ℕ → Option ℕ
or_else (Some k) next = Some k
or_else None next = next

-- the first of n links that joins two stations, or none
unfoldable pub joined_below : Network → Station → Station → ℕ → Option ℕ
joined_below N x y zero = None
joined_below N x y (suc n) = or_else (joined_below N x y n) (choose (joins (N.link n) x y) (Some n) None)

unfoldable pub link_between : Network → Station → Station → Option ℕ
link_between N x y = joined_below N x y N.links
