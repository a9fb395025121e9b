-- One turn of the loop that judges a given route, ride by ride.
use Prim.Native.Nat.{ℕ, ◌+◌, ◌≤◌, ◌<◌}
use Rattle.std.proofs.Common.{Ok, Err}
use mathlib.Core.Path.{◌≡◌, sym, ap, ◌∙◌}
use mathlib.Core.Bool.{true, false}
use mathlib.Core.List.{List, [], ◌∷◌, ◌++◌}
use native.Mathlib.Numerals.{add-one}
use lib.ListN.{length, take}
use lib.Seq.{length-take-le, take-suc, take-length}
use Rattle.outline.specs.declared.Leg.{Leg}
use Rattle.outline.specs.declared.Refusal.TheVariants.{BadRide}
use Rattle.outline.specs.Refusals.{first_below}
use Rattle.outline.specs.Network.{Network}
use Rattle.outline.specs.Routes.{no_ride, ride_at, good_next, ride_check, good_length, route_of, route_check}
use Rattle.routes.specs.declared.Route.{Route}
use Rattle.routes.specs.Held.{rides_of, Held, Longer, Given}
use Rattle.laws.proofs.Firsts.{demand_holds, demand_fails, first_is}
use Rattle.routes.proofs.Rides.{rides_length}

module _ (N : Network) (R : List Leg) (r : Route) (i : ℕ) (held : Held N r) (is : rides_of r ≡ take i R) where
  pub count_is : i ≤ length R → r.count ≡ i
  count_is h = sym (rides_length r held.sized) ∙ ap length is ∙ length-take-le i R h

  module _ (l : Leg) (inside : i < length R) (ride : l ≡ ride_at R i) where
    tested : good_next N (rides_of r) l ≡ good_next N (take i R) (ride_at R i)
    tested = rw (is, ride)

    pub turn_good : good_next N (rides_of r) l ≡ true → ride_check N R i ≡ Ok tt
    unfolding ride_check
    turn_good e = demand_holds _ _ _ (sym tested ∙ e)

    pub turn_bad : good_next N (rides_of r) l ≡ false → ride_check N R i ≡ Err (BadRide i)
    unfolding ride_check
    turn_bad e = demand_fails _ _ _ (sym tested ∙ e)

    pub turn_more : (s : Route) → Longer N r l s → rides_of s ≡ take (i + 1) R
    turn_more s step =
        step.more ∙ ap (λ (p : List Leg). p ++ (l ∷ [])) is ∙ ap (λ (x : Leg). take i R ++ (x ∷ [])) ride
        ∙ sym (take-suc R i no_ride inside) ∙ ap (λ (n : ℕ). take n R) (sym (add-one i))

module _ (N : Network) (bytes : List ℕ) where
  -- a length that is not good
  pub read_length : good_length (length bytes) ≡ false → route_check N bytes ≡ Err (BadRide 0)
  unfolding route_check
  read_length e = demand_fails _ _ _ e

  module _ (long : good_length (length bytes) ≡ true) (i : ℕ) (before : first_below (ride_check N (route_of bytes)) i ≡ Ok tt) where
    pub read_bad : i < length (route_of bytes) → ride_check N (route_of bytes) i ≡ Err (BadRide i) → route_check N bytes ≡ Err (BadRide i)
    unfolding route_check
    read_bad h e = demand_holds _ _ _ long ∙ first_is (ride_check N (route_of bytes)) (length (route_of bytes)) i (BadRide i) before h e

    pub read_good : (r : Route) → i ≡ length (route_of bytes) → Held N r → rides_of r ≡ take i (route_of bytes) → Given N bytes r
    unfolding route_check
    read_good r e held is = record {
      good = demand_holds _ _ _ long ∙ rw e at before;
      held = held;
      is = is ∙ ap (λ (n : ℕ). take n (route_of bytes)) e ∙ take-length (route_of bytes);
    }
