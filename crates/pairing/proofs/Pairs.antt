-- The listed pairs are the good questions with the ride limit of the list.
use Prim.Native.Nat.{ℕ}
use mathlib.Core.Path.{◌≡◌, refl, sym, ap, subst}
use mathlib.Core.Bool.{not}
use mathlib.Core.Logic.{◌↔◌, inl}
use mathlib.Core.List.{[], ◌∷◌}
use native.Mathlib.Omega.{arith}
use Rattle.outline.specs.declared.Station.{Station}
use Rattle.outline.specs.declared.Question.{Question}
use Rattle.outline.specs.Numbers.{most_rides}
use Rattle.outline.specs.Tests.{Within}
use Rattle.outline.specs.Network.{Network, same_station}
use Rattle.outline.specs.Questions.{GoodQuestion, Answered}
use Rattle.outline.specs.Listing.{those, found_of}
use Rattle.outline.specs.Lister.{all_stations, pair_of, pairs_from, pairs}
use Rattle.cheapest.specs.Items.{In}
use Rattle.cheapest.proofs.Lists.{of_one, in_those, of_those, in_each, of_each_lem}
use Rattle.cheapest.proofs.Asking.{different_is}
use Rattle.cheapest.proofs.Twin.{found_is}
use Rattle.pairing.proofs.Stations.{station_listed}

-- what is listed from x is a pair of x and another station
pub from_listed : (N : Network) (x : Station) (q : Question) → In q (pairs_from N x) ↔ ((y : Station) × In y (all_stations N) × (x ≡ y → ⊥) × (pair_of x y ≡ q))
unfolding pairs_from In
from_listed N x q = (tells, λ (y, i, n, e). in_each (λ y. pair_of x y ∷ []) y q _ (in_those (λ y. not (same_station x y)) y _ i ((different_is x y).1 n)) (inl e))
  where
    tells : In q (pairs_from N x) → (y : Station) × In y (all_stations N) × (x ≡ y → ⊥) × (pair_of x y ≡ q)
    tells h =
        let (y, chosen, is) = of_each_lem (λ y. pair_of x y ∷ []) q (those (λ y. not (same_station x y)) (all_stations N)) h in
        let (listed, t) = of_those (λ y. not (same_station x y)) y (all_stations N) chosen in
        (y, listed, (different_is x y).0 t, of_one (pair_of x y) q is)

pub pair_listed : (N : Network) (q : Question) → In q (pairs N) ↔ (GoodQuestion N q × (q.limit ≡ most_rides))
unfolding pairs
pair_listed N q = (tells, holds)
  where
    tells : In q (pairs N) → GoodQuestion N q × (q.limit ≡ most_rides)
    tells h =
        let (x, listed, from) = of_each_lem (pairs_from N) q (all_stations N) h in
        let (y, other, differ, is) = (from_listed N x q).0 from in
        let few : Within 1 most_rides most_rides = record { from = omega arith; to = omega arith } in
        subst (λ (p : Question). GoodQuestion N p × (p.limit ≡ most_rides)) is
        (record { from = (station_listed N x).0 listed; to = (station_listed N y).0 other; different = differ; limit = few }, refl)

    holds : GoodQuestion N q × (q.limit ≡ most_rides) → In q (pairs N)
    holds (g, e) =
        in_each (pairs_from N) q.from q (all_stations N) ((station_listed N q.from).1 g.from)
        ((from_listed N q.from q).1
        (q.to, (station_listed N q.to).1 g.to, g.different, ap (λ (n : ℕ). record { from = q.from; to = q.to; limit = n }) (sym e)))

-- what its line tells is the question's one answer: the cheapest route's, or that there is none
pub line_answered : (N : Network) (q : Question) → In q (pairs N) → Answered N q (found_of N q)
line_answered N q h = found_is N q ((pair_listed N q).0 h).0.limit.to
