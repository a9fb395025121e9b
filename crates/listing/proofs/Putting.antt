-- Laws of text put into a lent list, and the lengths of what is put.
use Prim.Native.Nat.{ℕ, zero, suc, ◌+◌, ◌*◌, ◌/◌, ◌%◌, ◌^◌, ◌≤◌, ◌<◌}
use mathlib.Core.Path.{◌≡◌, refl, sym, ap, ap₂, subst, ◌∙◌}
use mathlib.Core.Bool.{Bool, true, false}
use mathlib.Core.List.{List, [], ◌∷◌, ◌++◌, append_assoc}
use native.Mathlib.Numerals.{add-one}
use native.Mathlib.Omega.{arith}
use lib.ListN.{length, take, drop, set, length-append, length-drop, take-append-drop}
use lib.Seq.{set_split, take_at, drop_at, drop-drop, length-take-le}
use lib.Dec.{ltb}
use borrow.Author.Tests.{lt-ltb, le-ltb, ltb-true, ltb-false}
use Rattle.outline.specs.Tests.{choose}
use Rattle.outline.specs.Lister.{digit, digits_within, decimal}
use Rattle.listing.specs.Putting.{put_at, Put}

-- ---- text put into a list

pub put_length : {a xs b : List ℕ} {i j : ℕ} → Put a i xs b j → i + length xs ≤ length a → length b ≡ length a
unfolding put_at
put_length {a} {xs} {b} {i} {j} p h =
    ap length p.is ∙ length-append (take i a) (xs ++ drop (i + length xs) a) ∙ (
    let t = length-take-le i a (omega arith) in
    let d = length-drop (i + length xs) a in
    let l = length-append xs (drop (i + length xs) a) in
    omega arith
    )

pub put_nothing : (a : List ℕ) (i : ℕ) → Put a i [] a i
unfolding put_at
put_nothing a i =
    let e : i + 0 ≡ i = omega arith in
    record { is = sym (ap (λ (n : ℕ). take i a ++ drop n a) e ∙ take-append-drop i a); ends = sym e }

-- one text after another
pub put_then : {a xs b ys c : List ℕ} {i j k : ℕ} → Put a i xs b j → Put b j ys c k → i + length xs + length ys ≤ length a → Put a i (xs ++ ys) c k
unfolding put_at
put_then {a} {xs} {b} {ys} {c} {i} {j} {k} p q h =
    let long : length (take i a ++ xs) ≡ j = length-append (take i a) xs ∙ (let t = length-take-le i a (omega arith) in let e = p.ends in omega arith) in
    let whole : b ≡ (take i a ++ xs) ++ drop (i + length xs) a = p.is ∙ sym (append_assoc (take i a) xs (drop (i + length xs) a)) in
    let front : take j b ≡ take i a ++ xs = ap (take j) whole ∙ take_at (take i a ++ xs) (drop (i + length xs) a) j long in
    let all : i + length xs + length ys ≡ i + length (xs ++ ys) = let l = length-append xs ys in omega arith in
    let back : drop (j + length ys) b ≡ drop (i + length (xs ++ ys)) a =
    sym (drop-drop (length ys) j b)
    ∙ ap (λ (l : List ℕ). drop (length ys) l) (ap (drop j) whole ∙ drop_at (take i a ++ xs) (drop (i + length xs) a) j long)
    ∙ drop-drop (length ys) (i + length xs) a
    ∙ ap (λ (n : ℕ). drop n a) all in
    record {
      is =
          q.is
          ∙ ap₂ (λ (l r : List ℕ). l ++ (ys ++ r)) front back
          ∙ append_assoc (take i a) xs (ys ++ drop (i + length (xs ++ ys)) a)
          ∙ ap (λ (l : List ℕ). take i a ++ l) (sym (append_assoc xs ys (drop (i + length (xs ++ ys)) a)));
      ends = let l = length-append xs ys in omega (arith, p.ends, q.ends);
    }

-- the same, with no more than m and n bytes
pub put_joined : {a xs b ys c : List ℕ} {i j k : ℕ} (m n : ℕ) → Put a i xs b j × (j ≤ i + m) → Put b j ys c k × (k ≤ j + n) → i + (m + n) ≤ length a
    → Put a i (xs ++ ys) c k × (k ≤ i + (m + n))
put_joined m n p q h = (put_then p.0 q.0 (omega (arith, p.0.ends, p.1, q.0.ends, q.1)), omega (arith, p.1, q.1))

-- the same text, told otherwise
pub put_same : {a xs ys b : List ℕ} {i j : ℕ} → xs ≡ ys → Put a i xs b j → Put a i ys b j
put_same {a} {xs} {ys} {b} {i} {j} e p = subst (λ (l : List ℕ). Put a i l b j) e p

pub put_one : (a : List ℕ) (i x : ℕ) → i < length a → Put a i (x ∷ []) (set a i x) (i + 1)
unfolding put_at
put_one a i x h = record { is = rw add-one (set_split a i x h); ends = refl }

-- ---- decimal digits

-- more digits than enough change nothing
enough : (n m x : ℕ) → x < n → x < m → digits_within n x ≡ digits_within m x
unfolding digits_within choose
enough zero m x h l = absurd (omega arith)
enough (suc n) zero x h l = absurd (omega arith)
enough (suc n) (suc m) x h l = go (λ p q. enough n m (x / 10) p q) (ltb x 10) refl
  where
    go : (x / 10 < n → x / 10 < m → digits_within n (x / 10) ≡ digits_within m (x / 10)) → (t : Bool) → ltb x 10 ≡ t → digits_within (suc n) x ≡ digits_within (suc m) x
    go less true e = rw e
    go less false e =
        let big = ltb-false x 10 e in
        rw e (ap (λ (s : List ℕ). s ++ (digit (x % 10) ∷ [])) (less (omega arith) (omega arith)))

pub decimal_one : (x : ℕ) → x < 10 → decimal x ≡ digit x ∷ []
unfolding decimal digits_within choose
decimal_one x h = rw (lt-ltb x 10 h)

pub decimal_more : (x : ℕ) → 10 ≤ x → decimal x ≡ decimal (x / 10) ++ (digit (x % 10) ∷ [])
unfolding decimal digits_within choose
decimal_more x h = rw (le-ltb x 10 h) (ap (λ (l : List ℕ). l ++ (digit (x % 10) ∷ [])) (enough x (suc (x / 10)) (x / 10) (omega arith) (omega arith)))

pub decimal_more_length : (x : ℕ) → 10 ≤ x → length (decimal x) ≡ length (decimal (x / 10)) + 1
decimal_more_length x h = ap length (decimal_more x h) ∙ length-append (decimal (x / 10)) (digit (x % 10) ∷ [])

-- a number below ten times m has one digit more than those below m
longer : (k m : ℕ) → ((y : ℕ) → y < m → length (decimal y) ≤ k) → 1 ≤ k → (x : ℕ) → x < m * 10 → length (decimal x) ≤ k + 1
longer k m h some x l = go (ltb x 10) refl
  where
    go : (t : Bool) → ltb x 10 ≡ t → length (decimal x) ≤ k + 1
    go true e = let one = ap length (decimal_one x (ltb-true _ _ e)) in omega arith
    go false e =
        let more = decimal_more_length x (ltb-false x 10 e) in
        let few = h (x / 10) (omega arith) in
        omega arith

digits_most : (k x : ℕ) → x < 10 ^ suc k → length (decimal x) ≤ suc k
digits_most zero x h = let one = ap length (decimal_one x h) in omega arith
digits_most (suc k) x h = let l = longer (suc k) (10 ^ suc k) (digits_most k) (omega arith) x (omega (arith, h)) in omega arith

-- a number of 16 bits, and of 64
pub decimal_short : (x : ℕ) → x < 65536 → length (decimal x) ≤ 5
decimal_short x h = let g : x < 100000 = omega arith in digits_most 4 x g

pub decimal_most : (x : ℕ) → x < 18446744073709551616 → length (decimal x) ≤ 20
decimal_most x h = let g : x < 100000000000000000000 = omega arith in digits_most 19 x g
