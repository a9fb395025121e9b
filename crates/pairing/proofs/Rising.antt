-- The listed pairs rise, the from-station outermost; so no pair stands twice.
use Prim.Native.Nat.{ℕ, zero, suc, ◌<◌}
use mathlib.Core.Path.{◌≡◌, refl, sym, ap, subst}
use mathlib.Core.Bool.{Bool, true, false, not}
use mathlib.Core.Logic.{inl, inr, ⊎_elim}
use mathlib.Core.List.{List, [], ◌∷◌, ◌++◌}
use native.Mathlib.Omega.{arith}
use lib.ListN.{length}
use Rattle.outline.specs.declared.Station.{Station}
use Rattle.outline.specs.declared.Question.{Question}
use Rattle.outline.specs.Tests.{choose, list_of, in_order}
use Rattle.outline.specs.Lexical.{LexLe}
use Rattle.outline.specs.Network.{Network, same_station}
use Rattle.outline.specs.Listing.{those, of_each}
use Rattle.outline.specs.Lister.{station, all_stations, pair_of, pairs_from, pairs}
use Rattle.cheapest.specs.Items.{In}
use Rattle.cheapest.proofs.Lists.{of_one, in_second, in_either, of_those, of_each_lem, of_lists, of_list}
use Rattle.pairing.specs.Rising.{Before, RisingBy, station_rank, pair_rank}
use Rattle.pairing.proofs.Pairs.{from_listed}

-- ---- what comes before what

before_less : (a b : ℕ) (s t : List ℕ) → a < b → Before (a ∷ s) (b ∷ t)
unfolding LexLe
before_less a b s t h = (inl h, λ e. let same : a ≡ b = cc in omega arith)

-- what comes before does so after the same beginning too
before_after : (p s t : List ℕ) → Before s t → Before (p ++ s) (p ++ t)
unfolding LexLe
before_after [] s t b = b
before_after (a ∷ p) s t b = let (le, differ) = before_after p s t b in (inr (refl, le), λ e. differ (cc))

-- and, of lists of one length, whatever follows them
before_longer : (s t u v : List ℕ) → length s ≡ length t → Before s t → Before (s ++ u) (t ++ v)
unfolding LexLe
before_longer [] [] u v l b = absurd (b.1 refl)
before_longer [] (x ∷ t) u v l b = absurd (omega arith)
before_longer (a ∷ s) [] u v l b = absurd b.0
before_longer (a ∷ s) (x ∷ t) u v l (inl h, differ) = before_less a x (s ++ u) (t ++ v) h
before_longer (a ∷ s) (x ∷ t) u v l (inr (e, h), differ) =
    let (le, other) = before_longer s t u v (omega arith) (h, λ p. differ (cc)) in
    (inr (e, le), λ p. other (cc))

-- ---- lists that rise

module _ {A : Type 0} (rank : A → List ℕ) where
  pub rising_joined : (s t : List A) → RisingBy rank s → RisingBy rank t → ((x y : A) → In x s → In y t → Before (rank x) (rank y)) → RisingBy rank (s ++ t)
  unfolding RisingBy In
  rising_joined [] t r h b = h
  rising_joined (x ∷ s) t (first, r) h b =
      (λ y i. ⊎_elim (first y) (b x y (inl refl)) (in_either y s t i), rising_joined s t r h (λ z y i. b z y (inr i)))

  pub rising_in_order : (f : ℕ → List A) (n : ℕ) → ((k : ℕ) → k < n → RisingBy rank (f k))
      → ((j k : ℕ) → j < k → k < n → (x y : A) → In x (f j) → In y (f k) → Before (rank x) (rank y)) → RisingBy rank (in_order f n)
  unfolding RisingBy in_order
  rising_in_order f zero r b = tt
  rising_in_order f (suc n) r b =
      rising_joined (in_order f n) (f n)
      (rising_in_order f n (λ k l. r k (omega arith)) (λ j k l m. b j k l (omega arith)))
      (r n (omega arith))
      (λ x y i h. let (j, l, from) = of_lists f x n i in b j n l (omega arith) x y from h)

  pub rising_list : (f : ℕ → A) (n : ℕ) → ((j k : ℕ) → j < k → k < n → Before (rank (f j)) (rank (f k))) → RisingBy rank (list_of f n)
  unfolding RisingBy list_of
  rising_list f zero b = tt
  rising_list f (suc n) b = (
    λ y i. let (k, l, e) = of_list (λ j. f (suc j)) y n i in rw (sym e) (b 0 (suc k) (omega arith) (omega arith)),
    rising_list (λ j. f (suc j)) n (λ j k l m. b (suc j) (suc k) (omega arith) (omega arith)),
  )

  pub rising_those : (p : A → Bool) (s : List A) → RisingBy rank s → RisingBy rank (those p s)
  unfolding RisingBy those choose
  rising_those p [] r = tt
  rising_those p (x ∷ s) (first, r) = go (p x) (rising_those p s r)
    where
      go : (t : Bool) → RisingBy rank (those p s) → RisingBy rank (choose t (x ∷ those p s) (those p s))
      go true h = (λ y i. first y (of_those p y s i).0, h)
      go false h = h

  -- no item stands twice
  pub rising_once : (s t : List A) (x : A) → RisingBy rank (s ++ (x ∷ t)) → (In x s → ⊥) × (In x t → ⊥)
  unfolding RisingBy In
  rising_once [] t x (first, r) = (λ h. h, λ h. (first x h).1 refl)
  rising_once (y ∷ s) t x (first, r) =
      let (before, after) = rising_once s t x r in
      (⊎_elim (λ e. (first x (in_second x s (x ∷ t) (inl refl))).1 (ap rank e)) before, after)

-- items that come in rising order give their lists so
pub rising_each : {A B : Type 0} (outer : A → List ℕ) (inner : B → List ℕ) (f : A → List B) (s : List A) → RisingBy outer s → ((x : A) → In x s → RisingBy inner (f x))
    → ((x y : A) → Before (outer x) (outer y) → (u v : B) → In u (f x) → In v (f y) → Before (inner u) (inner v)) → RisingBy inner (of_each f s)
unfolding RisingBy of_each In
rising_each outer inner f [] r h b = tt
rising_each outer inner f (x ∷ s) (first, r) h b =
    rising_joined inner (f x) (of_each f s) (h x (inl refl)) (rising_each outer inner f s r (λ y i. h y (inr i)) b)
    (λ u v i k. let (y, listed, from) = of_each_lem f v s k in b x y (first y listed) u v i from)

-- ---- the stations and the pairs

pub stations_rising : (N : Network) → RisingBy station_rank (all_stations N)
unfolding all_stations
stations_rising N =
    rising_in_order station_rank (λ c. list_of (station c) (N.stations c)) N.companies
    (λ c l. rising_list station_rank (station c) (N.stations c) (λ j k m n. before_after (c ∷ []) (j ∷ []) (k ∷ []) (before_less j k [] [] m)))
    (λ c d m l x y i h.
    let (j, few, e) = of_list (station c) x (N.stations c) i in
    let (k, less, o) = of_list (station d) y (N.stations d) h in
    rw (sym e, sym o) (before_less c d (j ∷ []) (k ∷ []) m))

pub from_rising : (N : Network) (x : Station) → RisingBy pair_rank (pairs_from N x)
unfolding pairs_from RisingBy In
from_rising N x =
    rising_each station_rank pair_rank (λ y. pair_of x y ∷ []) (those (λ y. not (same_station x y)) (all_stations N))
    (rising_those station_rank (λ y. not (same_station x y)) (all_stations N) (stations_rising N))
    (λ y i. (λ q h. absurd h, tt))
    (λ y z b p q i h. rw (sym (of_one (pair_of x y) p i), sym (of_one (pair_of x z) q h)) (before_after (station_rank x) (station_rank y) (station_rank z) b))

pub pairs_rising : (N : Network) → RisingBy pair_rank (pairs N)
unfolding pairs
pairs_rising N =
    rising_each station_rank pair_rank (pairs_from N) (all_stations N) (stations_rising N) (λ x i. from_rising N x)
    (λ x y b p q i h.
    let one = (from_listed N x p).0 i in
    let other = (from_listed N y q).0 h in
    rw (sym one.3, sym other.3) (before_longer (station_rank x) (station_rank y) (station_rank one.0) (station_rank other.0) refl b))

-- each pair stands once: neither before nor after where it stands
pub each_once : (N : Network) (s t : List Question) (q : Question) → pairs N ≡ s ++ (q ∷ t) → (In q s → ⊥) × (In q t → ⊥)
each_once N s t q e = rising_once pair_rank s t q (subst (RisingBy pair_rank) e (pairs_rising N))
