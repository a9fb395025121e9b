-- What a comparison of two routes' rides shows of their bytes.
use Prim.Native.Nat.{ℕ, ◌<◌}
use mathlib.Core.Path.{◌≡◌, refl, sym, ap, subst, ◌∙◌}
use mathlib.Core.Logic.{inl, inr}
use mathlib.Core.Bool.{Bool, true, false}
use mathlib.Core.List.{List, [], ◌∷◌}
use Rattle.std.specs.Prelude.{Option, Some}
use Rattle.std.specs.declared.cmp.Ordering.{Ordering}
use Rattle.std.specs.declared.cmp.Ordering.TheVariants.{Less, Equal, Greater}
use Rattle.std.specs.Ordering.{MatchOrdering, ordering_then, partial_ordering_then, nat_cmp, is_le, is_some_and}
use Rattle.std.specs.Cmp.Lexicographic.{slice_cmp, slice_partial_cmp, lists_agrees}
use Rattle.std.proofs.lemmas.Cmp.{ranked}
use Rattle.outline.specs.declared.Leg.{Leg}
use Rattle.outline.specs.Lexical.{LexLe}
use Rattle.outline.specs.Routes.{bytes_of}
use Rattle.laws.proofs.Tests.{true_not_false}
use Rattle.laws.proofs.Lexical.{lex_same}
use native.Mathlib.Omega.{arith}
use Rattle.routes.specs.declared.Route.{Route}
use Rattle.routes.specs.Held.{rides_of, Sized}
use Rattle.routes.proofs.Rides.{rides_length}
use Rattle.best.specs.Kept.{NoLonger}

-- ---- the order of two rides, as it is derived: by company, then boarding, then alighting station

abbrev pub ride_cmp : Leg → Leg → Ordering
ride_cmp x y = ordering_then (nat_cmp x.company y.company) (ordering_then (nat_cmp x.boarding y.boarding) (nat_cmp x.alighting y.alighting))

then_some : (a b : Ordering) → partial_ordering_then (Some a) (Some b) ≡ Some (ordering_then a b)
then_some Less b = refl
then_some Equal b = refl
then_some Greater b = refl

pub ride_some : (x y : Leg)
    → partial_ordering_then (Some (nat_cmp x.company y.company)) (partial_ordering_then (Some (nat_cmp x.boarding y.boarding)) (Some (nat_cmp x.alighting y.alighting)))
    ≡ Some (ride_cmp x y)
ride_some x y =
    ap (partial_ordering_then (Some (nat_cmp x.company y.company))) (then_some (nat_cmp x.boarding y.boarding) (nat_cmp x.alighting y.alighting))
    ∙ then_some (nat_cmp x.company y.company) (ordering_then (nat_cmp x.boarding y.boarding) (nat_cmp x.alighting y.alighting))

then_then : (a b c : Ordering) → ordering_then (ordering_then a b) c ≡ ordering_then a (ordering_then b c)
then_then Less b c = refl
then_then Equal b c = refl
then_then Greater b c = refl

-- ---- the order of two lists of numbers

-- what it says of them
abbrev Ordered : Ordering → List ℕ → List ℕ → Type 0
Ordered o s t = MatchOrdering o (LexLe s t) (s ≡ t) (LexLe t s)

-- one more number in front of each
in_front : (a b : ℕ) (s t : List ℕ) (r o : Ordering) → MatchOrdering r (a < b) (a ≡ b) (b < a) → Ordered o s t → Ordered (ordering_then r o) (a ∷ s) (b ∷ t)
unfolding LexLe
in_front a b s t Less o h k = inl h
in_front a b s t Equal Less h k = inr (h, k)
in_front a b s t Equal Equal h k = cc
in_front a b s t Equal Greater h k = inr (sym h, k)
in_front a b s t Greater o h k = inl h

number_in_front : (a b : ℕ) (s t : List ℕ) (o : Ordering) → Ordered o s t → Ordered (ordering_then (nat_cmp a b) o) (a ∷ s) (b ∷ t)
number_in_front a b s t o k = in_front a b s t (nat_cmp a b) o (ranked a b (nat_cmp a b) refl) k

-- ---- the order of two routes' rides is that of their bytes

rides_ordered : (l m : List Leg) → Ordered (slice_cmp ride_cmp l m) (bytes_of l) (bytes_of m)
unfolding bytes_of LexLe
rides_ordered [] [] = refl
rides_ordered [] (y ∷ m) = tt
rides_ordered (x ∷ l) [] = tt
rides_ordered (x ∷ l) (y ∷ m) =
    let rest = slice_cmp ride_cmp l m in
    let flat =
    then_then (nat_cmp x.company y.company) (ordering_then (nat_cmp x.boarding y.boarding) (nat_cmp x.alighting y.alighting)) rest
    ∙ ap (ordering_then (nat_cmp x.company y.company)) (then_then (nat_cmp x.boarding y.boarding) (nat_cmp x.alighting y.alighting) rest) in
    subst (λ (o : Ordering). Ordered o (bytes_of (x ∷ l)) (bytes_of (y ∷ m))) (sym flat)
    (number_in_front x.company y.company (x.boarding ∷ x.alighting ∷ bytes_of l) (y.boarding ∷ y.alighting ∷ bytes_of m) _
    (number_in_front x.boarding y.boarding (x.alighting ∷ bytes_of l) (y.alighting ∷ bytes_of m) _ (number_in_front x.alighting y.alighting _ _ _ (rides_ordered l m))))

up_to : (o : Ordering) (s t : List ℕ) → Ordered o s t → is_le o ≡ true → LexLe s t
up_to Less s t h e = h
up_to Equal s t h e = subst (LexLe s) h (lex_same s)
up_to Greater s t h e = absurd (true_not_false (sym e))

past : (o : Ordering) (s t : List ℕ) → Ordered o s t → is_le o ≡ false → LexLe t s
past Less s t h e = absurd (true_not_false e)
past Equal s t h e = absurd (true_not_false e)
past Greater s t h e = h

-- what `l <= m` tells, by an order that is the one of rides
module _ (C : Leg → Leg → Option Ordering) (same : (x y : Leg) → C x y ≡ Some (ride_cmp x y)) (l m : List Leg) (r : Bool) (told : r ≡ is_some_and is_le (slice_partial_cmp C l m)) where
  by_order : r ≡ is_le (slice_cmp ride_cmp l m)
  by_order = told ∙ ap (is_some_and is_le) (lists_agrees {R = ride_cmp} same l m)

  pub no_greater : r ≡ true → LexLe (bytes_of l) (bytes_of m)
  no_greater e = up_to (slice_cmp ride_cmp l m) _ _ (rides_ordered l m) (sym by_order ∙ e)

  pub greater : r ≡ false → LexLe (bytes_of m) (bytes_of l)
  greater e = past (slice_cmp ride_cmp l m) _ _ (rides_ordered l m) (sym by_order ∙ e)

-- ---- the number of rides

pub fewer_rides : (x y : Route) → Sized x → Sized y → x.count < y.count → NoLonger (rides_of x) (rides_of y)
fewer_rides x y s t l = let a = rides_length x s in let b = rides_length y t in inl (omega arith)
