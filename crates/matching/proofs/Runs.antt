-- The rides of a run, what they cost, and the links between them.
use Prim.Native.Nat.{ℕ, ◌+◌, ◌-◌, ◌*◌, ◌≤◌, ◌<◌}
use mathlib.Core.Path.{◌≡◌, refl, sym, ap, ◌∙◌}
use mathlib.Core.Bool.{Bool}
use mathlib.Core.List.{List, [], ◌∷◌}
use native.Mathlib.Numerals.{add-one}
use native.Mathlib.Omega.{arith}
use lib.ListN.{length, get_or, take, drop, length-drop}
use lib.Seq.{length-take-le, get_or-take, get_or-drop, take-suc}
use Rattle.outline.specs.declared.Leg.{Leg}
use Rattle.std.specs.Prelude.{Some, Result, Ok, Err}
use Rattle.std.specs.List.{list_all, zip}
use Rattle.std.specs.Result.{result_ok}
use Rattle.std.proofs.lemmas.Slice.Zip.{length-zip, get_or-zip}
use Rattle.std.proofs.lemmas.List.{drop-take, take-take}
use Rattle.laws.proofs.Chains.{all_is, all_alike}
use Rattle.outline.specs.Tests.{all_below}
use lib.Dec.{eqb}
use Rattle.outline.specs.declared.Reason.{Reason}
use Rattle.outline.specs.Network.{Network}
use Rattle.outline.specs.Routes.{entry_for, Exists, no_ride, ride_at, link_after}
use Rattle.outline.specs.declared.Rule.{Rule}
use Rattle.outline.specs.Fares.{company_at, in_map}
use Rattle.outline.specs.Matching.{yen_of, sum_of, same_companies, boards, alights, permits, saving_of}
use Rattle.routes.specs.declared.Route.{Route}
use Rattle.routes.specs.Held.{rides_of, Sized, Held}
use Rattle.routes.proofs.Rides.{rides_length, rides_at}
use Rattle.matching.specs.declared.part.Part.{Part}
use Rattle.matching.specs.Runs.{run_in}
use Rattle.matching.specs.Parts.{rides_in}
use Rattle.outline.specs.Book.{network}
use Rattle.laws.proofs.Reading.{rule_sized, stations_few}
use Rattle.laws.proofs.Book.{found_link}
use Rattle.choice.proofs.Totals.{sum_append}

module _ (r : Route) (sized : Sized r) (first rides : ℕ) (ends : first + rides ≤ r.count) where
  pub run_length : length (run_in r first rides) ≡ rides
  run_length =
      let l = rides_length r sized in
      let d = length-drop first (rides_of r) in
      length-take-le rides (drop first (rides_of r)) (omega arith)

  -- ride i of the run is ride first + i of the route
  pub run_at : (i : ℕ) (d : Leg) → i < rides → get_or r.legs (first + i) d ≡ ride_at (run_in r first rides) i
  run_at i d h =
      rides_at r sized (first + i) d (omega arith)
      ∙ sym (get_or-take rides (drop first (rides_of r)) i no_ride h ∙ get_or-drop first (rides_of r) i no_ride)

  cut_rides : first + rides - first ≡ rides
  cut_rides = omega arith

  -- the rides and the fares of the run, as the code cuts them out
  pub run_cut : take (first + rides - first) (drop first r.legs) ≡ run_in r first rides
  run_cut =
      ap (λ (n : ℕ). take n (drop first r.legs)) cut_rides
      ∙ sym (drop-take first rides r.legs)
      ∙ ap (drop first) (sym (take-take (first + rides) r.count r.legs ends))
      ∙ drop-take first rides (take r.count r.legs)

  pub fares_length : length (take (first + rides - first) (drop first r.fares)) ≡ rides
  fares_length =
      let d = length-drop first r.fares in
      length-take-le (first + rides - first) (drop first r.fares) (let f = sized.fares in let s = sized.few in omega arith) ∙ cut_rides

  pub fare_at : (i : ℕ) → i < rides → get_or (take (first + rides - first) (drop first r.fares)) i 0 ≡ get_or r.fares (first + i) 0
  fare_at i h = get_or-take (first + rides - first) (drop first r.fares) i 0 (omega arith) ∙ get_or-drop first r.fares i 0

  module _ (some : 1 ≤ rides) where
    pub run_first : (d : Leg) → get_or r.legs first d ≡ ride_at (run_in r first rides) 0
    run_first d =
        let e : first ≡ first + 0 = omega arith in
        ap (λ (n : ℕ). get_or r.legs n d) e ∙ run_at 0 d (omega arith)

    pub run_last : (d : Leg) → get_or r.legs (first + rides - 1) d ≡ ride_at (run_in r first rides) (length (run_in r first rides) - 1)
    run_last d =
        let long = run_length in
        let e : first + rides - 1 ≡ first + (rides - 1) = omega arith in
        let g : rides - 1 ≡ length (run_in r first rides) - 1 = omega arith in
        ap (λ (n : ℕ). get_or r.legs n d) e ∙ run_at (rides - 1) d (omega arith) ∙ ap (ride_at (run_in r first rides)) g

module _ (N : Network) (r : Route) (held : Held N r) where
  -- one more ride
  pub sum-turn : (first i : ℕ) → first + i < r.count → sum_of N (run_in r first (i + 1)) ≡ sum_of N (run_in r first i) + get_or r.fares (first + i) 0
  unfolding sum_of yen_of
  sum-turn first i h =
      let l = rides_length r held.sized in
      let d = length-drop first (rides_of r) in
      let t = take-suc (drop first (rides_of r)) i no_ride (omega arith) in
      let at = get_or-drop first (rides_of r) i no_ride ∙ sym (rides_at r held.sized (first + i) no_ride h) in
      let fare : yen_of (entry_for N (get_or (drop first (rides_of r)) i no_ride)) ≡ get_or r.fares (first + i) 0 = rw at (ap yen_of (held.fares (first + i) h)) in
      let e =
      ap (λ (n : ℕ). sum_of N (take n (drop first (rides_of r)))) (add-one i)
      ∙ ap (sum_of N) t
      ∙ sum_append N (take i (drop first (rides_of r))) (get_or (drop first (rides_of r)) i no_ride ∷ []) in
      omega arith

  module _ (first rides : ℕ) (ends : first + rides ≤ r.count) where
    pub run_exists : (i : ℕ) → i < rides → Exists N (ride_at (run_in r first rides) i)
    run_exists i h = rw (← run_at r held.sized first rides ends i no_ride h) (held.exist (first + i) (omega arith))

    -- the link by which ride i of the run is reached
    pub run_link : (i : ℕ) → 1 ≤ i → i < rides → link_after N (run_in r first rides) (i - 1) ≡ Some (get_or r.links (first + i) 0)
    unfolding link_after
    run_link i some h =
        let there = run_at r held.sized first rides ends (i - 1) no_ride (omega arith) in
        let next = run_at r held.sized first rides ends i no_ride h in
        let again : i - 1 + 1 ≡ i = omega arith in
        let e : first + (i - 1) + 1 ≡ first + i = omega arith in
        rw (again, ← there, ← next) (rw e at (held.links (first + (i - 1)) (omega arith)))

    pub run_link_known : (i : ℕ) → 1 ≤ i → i < rides → get_or r.links (first + i) 0 < N.links
    unfolding link_after
    run_link_known i some h = (found_link N _ _ _ (run_link i some h)).0

    -- whether a rule permits the change before ride i of the run
    pub run_permits : (rule : Rule) (i : ℕ) → 1 ≤ i → i < rides → permits rule (link_after N (run_in r first rides) (i - 1)) ≡ in_map rule.permitted (get_or r.links (first + i) 0)
    unfolding permits
    run_permits rule i some h = ap (permits rule) (run_link i some h)

-- the ends of a run and a rule's maps
module _ (q : Part) (k : ℕ) (known : k < (network q.book.bytes.now).rules) where
  -- each company of the run against the rule's in its place
  pub companies_is : list_all (λ (p : Leg × ℕ). eqb p.0.company p.1) (zip (rides_in q) ((network q.book.bytes.now).rule k).companies) ≡ same_companies ((network q.book.bytes.now).rule k) (rides_in q)
  unfolding same_companies
  companies_is =
      let long = run_length q.route q.held.sized q.first q.rides q.inside.ends in
      let size = (rule_sized _ q.book.laid_out k known).companies in
      let zipped = length-zip (rides_in q) ((network q.book.bytes.now).rule k).companies in
      let all : length (zip (rides_in q) ((network q.book.bytes.now).rule k).companies) ≡ length (rides_in q) = omega (arith, q.inside.ends, q.held.sized.few) in
      all_is (λ (p : Leg × ℕ). eqb p.0.company p.1) (no_ride, 0) (zip (rides_in q) ((network q.book.bytes.now).rule k).companies)
      ∙ all_alike _ _ _ (λ i h. rw (get_or-zip (rides_in q) ((network q.book.bytes.now).rule k).companies i (no_ride, 0) (omega arith) (omega (arith, q.inside.ends, q.held.sized.few))) refl)
      ∙ ap (all_below (λ (i : ℕ). eqb (ride_at (rides_in q) i).company (company_at ((network q.book.bytes.now).rule k) i))) all

  -- a station of a ride of the run has room in a map of five bytes
  known_station : (i : ℕ) → i < q.rides → ((ride_at (rides_in q) i).boarding < 40) × ((ride_at (rides_in q) i).alighting < 40)
  known_station i h =
      let there = run_exists (network q.book.bytes.now) q.route q.held q.first q.rides q.inside.ends i h in
      let few = stations_few _ q.book.laid_out (ride_at (rides_in q) i).company there.company in
      (omega (arith, there.boarding), omega (arith, there.alighting))

  module _ (d : Leg) (map : List ℕ) where
    pub first_in : map ≡ ((network q.book.bytes.now).rule k).boarding → (get_or q.route.legs q.first d).boarding < 8 * length map
    first_in e =
        let size = (rule_sized _ q.book.laid_out k known).boarding in
        rw (run_first q.route q.held.sized q.first q.rides q.inside.ends q.inside.some d, e) (omega (arith, (known_station 0 q.inside.some).0))

    pub last_in : map ≡ ((network q.book.bytes.now).rule k).alighting → (get_or q.route.legs (q.first + q.rides - 1) d).alighting < 8 * length map
    last_in e =
        let size = (rule_sized _ q.book.laid_out k known).alighting in
        let long = run_length q.route q.held.sized q.first q.rides q.inside.ends in
        let inside : length (rides_in q) - 1 < q.rides = omega (arith, q.inside.some) in
        rw (run_last q.route q.held.sized q.first q.rides q.inside.ends q.inside.some d, e) (omega (arith, (known_station (length (rides_in q) - 1) inside).1))

    pub boards_is : map ≡ ((network q.book.bytes.now).rule k).boarding → (t : Bool) → t ≡ in_map map (get_or q.route.legs q.first d).boarding → boards ((network q.book.bytes.now).rule k) (rides_in q) ≡ t
    boards_is e t h = rw (← run_first q.route q.held.sized q.first q.rides q.inside.ends q.inside.some d, ← e) (sym h)

    pub alights_is : map ≡ ((network q.book.bytes.now).rule k).alighting → (t : Bool) → t ≡ in_map map (get_or q.route.legs (q.first + q.rides - 1) d).alighting → alights ((network q.book.bytes.now).rule k) (rides_in q) ≡ t
    alights_is e t h = rw (← run_last q.route q.held.sized q.first q.rides q.inside.ends q.inside.some d, ← e) (sym h)

-- what a rule that matches earns
pub ok_saves : (x : Result ℕ Reason) → result_ok x ≡ saving_of x
ok_saves (Ok yen) = refl
ok_saves (Err reason) = refl
