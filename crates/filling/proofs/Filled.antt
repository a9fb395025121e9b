-- A lent list that is filled from the front: what a store adds to it, and what a part that was lent on brings back.
use Prim.Native.Nat.{ℕ, suc, ◌+◌, ◌-◌, ◌≤◌, ◌<◌}
use mathlib.Core.Path.{◌≡◌, refl, sym, ap, ◌∙◌}
use mathlib.Core.List.{List, [], ◌∷◌, ◌++◌, append_assoc, append-nil}
use native.Mathlib.Numerals.{add-one}
use native.Mathlib.Omega.{arith}
use lib.ListN.{length, get_or, take, drop, set, length-append, length-drop, drop_of_length-le}
use lib.Seq.{take_at, drop_at, take_all, drop-drop, set_at, drop-cons, take-suc, length-take-le}
use Rattle.outline.specs.Lending.{filled}

pub filled_none : (d : List ℕ) → d ≡ filled [] d
unfolding filled
filled_none d = refl

pub length-filled : (xs d : List ℕ) → length xs ≤ length d → length (filled xs d) ≡ length d
unfolding filled
length-filled xs d h = simp (length-append, length-drop) (omega arith)

-- what stands before the rest is what was written
pub filled_front : (xs d : List ℕ) → take (length xs) (filled xs d) ≡ xs
unfolding filled
filled_front xs d = take_at xs (drop (length xs) d) (length xs) refl

-- a store right after what is written
pub filled_store : (xs d e : List ℕ) (i v : ℕ) → e ≡ filled xs d → i ≡ length xs → length xs < length d → set e i v ≡ filled (xs ++ (v ∷ [])) d
unfolding filled
filled_store xs d e i v p q h =
    let here : drop (length xs) d ≡ _ = drop-cons d (length xs) 0 h in
    let long : length (xs ++ (v ∷ [])) ≡ suc (length xs) = length-append xs (v ∷ []) ∙ omega arith in
    ap (λ (l : List ℕ). set l i v) (p ∙ ap (λ (l : List ℕ). xs ++ l) here)
    ∙ set_at xs _ (drop (suc (length xs)) d) v i (sym q)
    ∙ sym (ap (λ (n : ℕ). (xs ++ (v ∷ [])) ++ drop n d) long ∙ append_assoc xs (v ∷ []) (drop (suc (length xs)) d))

-- A part from w on, right after what is written, was lent, and came back filled with ys.
pub filled_lent : (xs ys d e back : List ℕ) (w : ℕ) → e ≡ filled xs d → w ≡ length xs → length xs + length ys ≤ length d
    → back ≡ filled ys (take (length e - w) (drop w e))
    → take w e ++ (back ++ drop (length e - w) (drop w e)) ≡ filled (xs ++ ys) d
unfolding filled
filled_lent xs ys d e back w p q h r =
    let te : take w e ≡ xs = ap (take w) p ∙ take_at xs (drop (length xs) d) w (sym q) in
    let de : drop w e ≡ drop (length xs) d = ap (drop w) p ∙ drop_at xs (drop (length xs) d) w (sym q) in
    let gone : drop (length e - w) (drop w e) ≡ [] = drop_of_length-le (drop w e) {i = length e - w} (omega (arith, length-drop w e)) in
    let all : take (length e - w) (drop w e) ≡ drop w e = take_all (length e - w) (drop w e) (omega (arith, length-drop w e)) in
    rw (gone, append-nil, r, all, te, de, drop-drop, length-append, append_assoc)

-- ---- a list written number by number

pub filled_next : (xs d e : List ℕ) (i v : ℕ) → e ≡ filled (take i xs) d → i < length xs → length xs ≤ length d → v ≡ get_or xs i 0
    → set e i v ≡ filled (take (i + 1) xs) d
filled_next xs d e i v p h k q =
    let long : length (take i xs) ≡ i = length-take-le i xs (omega arith) in
    let more : take (i + 1) xs ≡ take i xs ++ (v ∷ []) = ap (λ (j : ℕ). take j xs) (add-one i) ∙ take-suc xs i 0 h ∙ ap (λ (x : ℕ). take i xs ++ (x ∷ [])) (sym q) in
    filled_store (take i xs) d e i v p (sym long) (omega arith) ∙ ap (λ (x : List ℕ). filled x d) (sym more)

pub filled_end : (xs d e : List ℕ) (i : ℕ) → e ≡ filled (take i xs) d → length xs ≤ i → e ≡ filled xs d
filled_end xs d e i p h = p ∙ ap (λ (x : List ℕ). filled x d) (take_all i xs h)

-- a few stores at the front
pub one_store : (x : ℕ) (d : List ℕ) → 1 ≤ length d → set d 0 x ≡ filled (x ∷ []) d
unfolding filled
one_store x [] h = absurd (omega arith)
one_store x (a ∷ d) h = refl

pub two_stores : (x y : ℕ) (d : List ℕ) → 2 ≤ length d → set (set d 0 x) 1 y ≡ filled (x ∷ y ∷ []) d
unfolding filled
two_stores x y [] h = absurd (omega arith)
two_stores x y (a ∷ []) h = absurd (omega arith)
two_stores x y (a ∷ b ∷ d) h = refl

pub three_stores : (x y z : ℕ) (d : List ℕ) → 3 ≤ length d → set (set (set d 0 x) 1 y) 2 z ≡ filled (x ∷ y ∷ z ∷ []) d
unfolding filled
three_stores x y z [] h = absurd (omega arith)
three_stores x y z (a ∷ []) h = absurd (omega arith)
three_stores x y z (a ∷ b ∷ []) h = absurd (omega arith)
three_stores x y z (a ∷ b ∷ c ∷ d) h = refl

pub four_stores : (x y z w : ℕ) (d : List ℕ) → 4 ≤ length d → set (set (set (set d 0 x) 1 y) 2 z) 3 w ≡ filled (x ∷ y ∷ z ∷ w ∷ []) d
unfolding filled
four_stores x y z w [] h = absurd (omega arith)
four_stores x y z w (a ∷ []) h = absurd (omega arith)
four_stores x y z w (a ∷ b ∷ []) h = absurd (omega arith)
four_stores x y z w (a ∷ b ∷ c ∷ []) h = absurd (omega arith)
four_stores x y z w (a ∷ b ∷ c ∷ e ∷ d) h = refl
