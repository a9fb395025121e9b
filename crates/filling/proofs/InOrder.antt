-- Lists written in order, each after the one before: one more of them, where each stands, and when a list is made of them.
use Prim.Native.Nat.{ℕ, zero, suc, ◌+◌, ◌*◌, ◌-◌, ◌≤◌, ◌<◌}
use mathlib.Core.Path.{◌≡◌, refl, sym, ap, ap₂, ◌∙◌}
use mathlib.Core.List.{List, ◌++◌}
use mathlib.Core.Logic.{⊎_elim}
use native.Mathlib.Nat.{not-suc-le-zero, le_of_suc-le-suc, eq-or-lt_of_le}
use native.Mathlib.Numerals.{add-one}
use native.Mathlib.Omega.{arith}
use lib.ListN.{length, take, drop, length-append, length-drop}
use lib.Seq.{take-length, take-append-le, drop-append-le, take-add, drop-drop, drop-append_seam}
use Rattle.outline.specs.Tests.{in_order, part}
use Rattle.outline.specs.Lending.{filled}
use Rattle.filling.proofs.Filled.{filled_lent}

pub order_more : (f : ℕ → List ℕ) (k : ℕ) → in_order f (k + 1) ≡ in_order f k ++ f k
unfolding in_order
order_more f k = rw add-one refl

-- no list is written before the first turn
pub order_none : (f : ℕ → List ℕ) (d : List ℕ) → d ≡ filled (in_order f 0) d
unfolding in_order filled
order_none f d = refl

pub order_more_length : (f : ℕ → List ℕ) (k : ℕ) → length (in_order f (k + 1)) ≡ length (in_order f k) + length (f k)
order_more_length f k = ap length (order_more f k) ∙ length-append (in_order f k) (f k)

-- the first k and list k are among the first n
pub order_room : (f : ℕ → List ℕ) (n k : ℕ) → k < n → length (in_order f k) + length (f k) ≤ length (in_order f n)
unfolding in_order
order_room f zero k h = absurd (not-suc-le-zero h)
order_room f (suc n) k h =
    let long = length-append (in_order f n) (f n) in
    ⊎_elim
    (λ e. let same : length (in_order f k) + length (f k) ≡ length (in_order f n) + length (f n) = ap (λ (j : ℕ). length (in_order f j) + length (f j)) e in omega arith)
    (λ l. omega (arith, order_room f n k l))
    (eq-or-lt_of_le (le_of_suc-le-suc h))

pub order_same : (f g : ℕ → List ℕ) (n : ℕ) → ((k : ℕ) → k < n → f k ≡ g k) → in_order f n ≡ in_order g n
unfolding in_order
order_same f g zero h = refl
order_same f g (suc n) h = ap₂ (λ (a b : List ℕ). a ++ b) (order_same f g n (λ k l. h k (omega arith))) (h n (omega arith))

pub order_length : (f : ℕ → List ℕ) (p n : ℕ) → ((k : ℕ) → k < n → length (f k) ≡ p) → length (in_order f n) ≡ p * n
unfolding in_order
order_length f p zero h = sym (omega arith)
order_length f p (suc n) h =
    let i = order_length f p n (λ k l. h k (omega arith)) in
    let e = h n (omega arith) in
    length-append (in_order f n) (f n) ∙ omega arith

pub order_most : (f : ℕ → List ℕ) (p n : ℕ) → ((k : ℕ) → k < n → length (f k) ≤ p) → length (in_order f n) ≤ p * n
unfolding in_order
order_most f p zero h = omega arith
order_most f p (suc n) h =
    let i = order_most f p n (λ k l. h k (omega arith)) in
    let e = h n (omega arith) in
    omega (arith, length-append (in_order f n) (f n))

-- list k stands after the first k
pub order_part : (f : ℕ → List ℕ) (n k : ℕ) → k < n → part (in_order f n) (length (in_order f k)) (length (f k)) ≡ f k
unfolding in_order
order_part f zero k h = absurd (not-suc-le-zero h)
order_part f (suc n) k h = ⊎_elim here (λ l. before l (order_part f n k l)) (eq-or-lt_of_le (le_of_suc-le-suc h))
  where
    here : k ≡ n → part (in_order f n ++ f n) (length (in_order f k)) (length (f k)) ≡ f k
    here e = rw e (ap (take (length (f n))) (drop-append_seam (in_order f n) (f n)) ∙ take-length (f n))

    before : k < n → part (in_order f n) (length (in_order f k)) (length (f k)) ≡ f k → part (in_order f n ++ f n) (length (in_order f k)) (length (f k)) ≡ f k
    before l i =
        let room = order_room f n k l in
        ap (take (length (f k))) (drop-append-le (length (in_order f k)) (in_order f n) (f n) (omega arith))
        ∙ take-append-le (length (f k)) (drop (length (in_order f k)) (in_order f n)) (f n) (omega (arith, length-drop (length (in_order f k)) (in_order f n)))
        ∙ i

-- a part that has each list in its place is those lists in order
pub order_whole : (f : ℕ → List ℕ) (s : List ℕ) (a n : ℕ) → ((k : ℕ) → k < n → part s (a + length (in_order f k)) (length (f k)) ≡ f k)
    → part s a (length (in_order f n)) ≡ in_order f n
unfolding in_order
order_whole f s a zero h = refl
order_whole f s a (suc n) h =
    ap (λ (m : ℕ). part s a m) (length-append (in_order f n) (f n))
    ∙ take-add (length (in_order f n)) (length (f n)) (drop a s)
    ∙ ap₂ (λ (x y : List ℕ). x ++ take (length (f n)) y) (order_whole f s a n (λ k l. h k (omega arith))) (drop-drop (length (in_order f n)) a s)
    ∙ ap (λ (x : List ℕ). in_order f n ++ x) (h n (omega arith))

-- a turn of a loop that writes list k into the part after the first k
pub order_turn : (f : ℕ → List ℕ) (n k : ℕ) (d e back : List ℕ) (w : ℕ) → k < n → length (in_order f n) ≤ length d
    → e ≡ filled (in_order f k) d → w ≡ length (in_order f k) → back ≡ filled (f k) (take (length e - w) (drop w e))
    → take w e ++ (back ++ drop (length e - w) (drop w e)) ≡ filled (in_order f (k + 1)) d
order_turn f n k d e back w h room p q r =
    let here = order_room f n k h in
    filled_lent (in_order f k) (f k) d e back w p q (omega arith) r ∙ ap (λ (x : List ℕ). filled x d) (sym (order_more f k))

-- the same of lists of p numbers each, where the part after the first k begins at p * k
pub order_turn_sized : (f : ℕ → List ℕ) (p n k : ℕ) (d e back : List ℕ) (w : ℕ) → ((j : ℕ) → j < n → length (f j) ≡ p) → k < n → p * n ≤ length d
    → e ≡ filled (in_order f k) d → w ≡ p * k → back ≡ filled (f k) (take (length e - w) (drop w e))
    → take w e ++ (back ++ drop (length e - w) (drop w e)) ≡ filled (in_order f (k + 1)) d
order_turn_sized f p n k d e back w sized h room q at r =
    let first = order_length f p k (λ j l. sized j (omega arith)) in
    order_turn f n k d e back w h (omega (arith, order_length f p n sized)) q (at ∙ sym first) r
