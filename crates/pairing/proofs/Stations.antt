-- The listed stations are those of the network.
use Prim.Native.Nat.{ℕ}
use mathlib.Core.Path.{subst}
use mathlib.Core.Logic.{◌↔◌}
use mathlib.Core.List.{List}
use Rattle.outline.specs.declared.Station.{Station}
use Rattle.outline.specs.Tests.{list_of}
use Rattle.outline.specs.Network.{Network}
use Rattle.outline.specs.Questions.{Known}
use Rattle.outline.specs.Lister.{station, all_stations}
use Rattle.cheapest.specs.Items.{In}
use Rattle.cheapest.proofs.Lists.{in_lists, of_lists, in_list, of_list}

pub station_listed : (N : Network) (x : Station) → In x (all_stations N) ↔ Known N x
unfolding all_stations
station_listed N x = (is_known, λ k. in_lists of_company x N.companies x.company k.company (in_list (station x.company) _ x.number k.number))
  where
    of_company : ℕ → List Station
    of_company c = list_of (station c) (N.stations c)

    is_known : In x (all_stations N) → Known N x
    is_known h =
        let (c, few, i) = of_lists of_company x N.companies h in
        let (k, l, e) = of_list (station c) x (N.stations c) i in
        subst (Known N) e (record { company = few; number = l })
