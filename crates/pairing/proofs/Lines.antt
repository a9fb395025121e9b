-- The lister's lines as nested loops put them: from each station in turn, to each station in turn.
use Prim.Native.Nat.{ℕ, zero, suc}
use mathlib.Core.Path.{◌≡◌, refl, sym, ap, ◌∙◌}
use mathlib.Core.Bool.{Bool, true, false, not}
use mathlib.Core.List.{List, [], ◌∷◌, ◌++◌, append-nil, append_assoc}
use Rattle.outline.specs.declared.Station.{Station}
use Rattle.outline.specs.Tests.{choose, list_of, in_order}
use Rattle.outline.specs.Network.{Network, same_station}
use Rattle.outline.specs.Listing.{those, of_each}
use Rattle.outline.specs.Lister.{station, all_stations, pair_of, pairs_from, pairs, pair_line}

-- ---- of each item a list, where the items are themselves given by lists

pub each_one : {A B : Type 0} (f : A → List B) (x : A) → of_each f (x ∷ []) ≡ f x
unfolding of_each
each_one f x = append-nil (f x)

pub each_joined : {A B : Type 0} (f : A → List B) (s t : List A) → of_each f (s ++ t) ≡ of_each f s ++ of_each f t
unfolding of_each
each_joined f [] t = refl
each_joined f (x ∷ s) t = rw (each_joined f s t, append_assoc)

pub each_of_each : {A B C : Type 0} (f : B → List C) (g : A → List B) (s : List A) → of_each f (of_each g s) ≡ of_each (λ x. of_each f (g x)) s
unfolding of_each
each_of_each f g [] = refl
each_of_each f g (x ∷ s) = each_joined f (g x) (of_each g s) ∙ ap (λ (r : List _). of_each f (g x) ++ r) (each_of_each f g s)

pub each_of_those : {A B : Type 0} (f : A → List B) (p : A → Bool) (s : List A) → of_each f (those p s) ≡ of_each (λ x. choose (p x) (f x) []) s
unfolding of_each those choose
each_of_those f p [] = refl
each_of_those f p (x ∷ s) = go (p x) (each_of_those f p s)
  where
    go : (b : Bool) → of_each f (those p s) ≡ of_each (λ y. choose (p y) (f y) []) s
        → of_each f (choose b (x ∷ those p s) (those p s)) ≡ choose b (f x) [] ++ of_each (λ y. choose (p y) (f y) []) s
    go true e = ap (λ (r : List _). f x ++ r) e
    go false e = e

pub each_in_order : {A B : Type 0} (f : A → List B) (g : ℕ → List A) (n : ℕ) → of_each f (in_order g n) ≡ in_order (λ k. of_each f (g k)) n
unfolding in_order of_each
each_in_order f g zero = refl
each_in_order f g (suc n) = each_joined f (in_order g n) (g n) ∙ ap (λ (r : List _). r ++ of_each f (g n)) (each_in_order f g n)

-- the first list of those in order, and then the others
order_first : {A : Type 0} (f : ℕ → List A) (n : ℕ) → in_order f (suc n) ≡ f 0 ++ in_order (λ k. f (suc k)) n
unfolding in_order
order_first f zero = sym (append-nil (f 0))
order_first f (suc n) = ap (λ (r : List _). r ++ f (suc n)) (order_first f n) ∙ append_assoc (f 0) _ _

pub each_of_list : {A B : Type 0} (f : A → List B) (g : ℕ → A) (n : ℕ) → of_each f (list_of g n) ≡ in_order (λ k. f (g k)) n
unfolding of_each list_of in_order
each_of_list f g zero = refl
each_of_list f g (suc n) = ap (λ (r : List _). f (g 0) ++ r) (each_of_list f (λ k. g (suc k)) n) ∙ sym (order_first (λ k. f (g k)) n)

-- ---- the lines

not_chosen : {A : Type 0} (t : Bool) (a b : A) → choose (not t) a b ≡ choose t b a
unfolding choose
not_chosen true a b = refl
not_chosen false a b = refl

-- of each station of the network
each_station : {B : Type 0} (f : Station → List B) (N : Network) → of_each f (all_stations N) ≡ in_order (λ c. in_order (λ j. f (station c j)) (N.stations c)) N.companies
unfolding all_stations
each_station f N = each_in_order f (λ c. list_of (station c) (N.stations c)) N.companies ∙ simp each_of_list

pub from_as_put : (N : Network) (x : Station) → of_each (pair_line N) (pairs_from N x)
    ≡ in_order (λ c. in_order (λ j. choose (same_station x (station c j)) [] (pair_line N (pair_of x (station c j)))) (N.stations c)) N.companies
unfolding pairs_from
from_as_put N x =
    each_of_each (pair_line N) (λ y. pair_of x y ∷ []) (those (λ y. not (same_station x y)) (all_stations N))
    ∙ each_of_those (λ y. of_each (pair_line N) (pair_of x y ∷ [])) (λ y. not (same_station x y)) (all_stations N)
    ∙ each_station (λ y. choose (not (same_station x y)) (of_each (pair_line N) (pair_of x y ∷ [])) []) N
    ∙ simp (each_one, not_chosen)

pub all_as_put : (N : Network)
    → of_each (pair_line N) (pairs N) ≡ in_order (λ c. in_order (λ i. of_each (pair_line N) (pairs_from N (station c i))) (N.stations c)) N.companies
unfolding pairs
all_as_put N = each_of_each (pair_line N) (pairs_from N) (all_stations N) ∙ each_station (λ x. of_each (pair_line N) (pairs_from N x)) N
