-- Numbers written in two bytes each.
use Prim.Native.Nat.{ℕ, ◌+◌, ◌-◌, ◌*◌, ◌/◌, ◌%◌, ◌≤◌, ◌<◌}
use mathlib.Core.Path.{◌≡◌, refl, sym, ap, ◌∙◌}
use mathlib.Core.List.{List, [], ◌∷◌, ◌++◌}
use native.Mathlib.Numerals.{add-one}
use native.Mathlib.Omega.{arith}
use lib.ListN.{length, get_or, take, drop}
use lib.Seq.{take-suc, take_all, length-take-le}
use Rattle.outline.specs.Writing.{two_bytes, bytes_of_words}
use Rattle.outline.specs.Lending.{filled}
use Rattle.filling.proofs.Filled.{filled_lent}

pub length-bytes : (xs : List ℕ) → length (bytes_of_words xs) ≡ 2 * length xs
unfolding bytes_of_words two_bytes
length-bytes [] = refl
length-bytes (x ∷ xs) = omega (arith, length-bytes xs)

-- no number is written before the first turn
pub bytes_none : (d : List ℕ) → d ≡ filled (bytes_of_words []) d
unfolding bytes_of_words filled
bytes_none d = refl

pub bytes_append : (xs ys : List ℕ) → bytes_of_words (xs ++ ys) ≡ bytes_of_words xs ++ bytes_of_words ys
unfolding bytes_of_words two_bytes
bytes_append [] ys = refl
bytes_append (x ∷ xs) ys = ap (λ (t : List ℕ). x % 256 ∷ x / 256 ∷ t) (bytes_append xs ys)

-- one number more
pub bytes_next : (xs : List ℕ) (i : ℕ) → i < length xs → bytes_of_words (take (i + 1) xs) ≡ bytes_of_words (take i xs) ++ two_bytes (get_or xs i 0)
unfolding bytes_of_words two_bytes
bytes_next xs i h = ap (λ (j : ℕ). bytes_of_words (take j xs)) (add-one i) ∙ ap bytes_of_words (take-suc xs i 0 h) ∙ bytes_append (take i xs) (get_or xs i 0 ∷ [])

-- a turn of a loop that writes number i in two bytes after those before
pub bytes_turn : (xs d e back : List ℕ) (i : ℕ) → i < length xs → 2 * length xs ≤ length d → e ≡ filled (bytes_of_words (take i xs)) d
    → back ≡ filled (two_bytes (get_or xs i 0)) (take (length e - 2 * i) (drop (2 * i) e))
    → take (2 * i) e ++ (back ++ drop (length e - 2 * i) (drop (2 * i) e)) ≡ filled (bytes_of_words (take (i + 1) xs)) d
unfolding two_bytes
bytes_turn xs d e back i h room p q =
    let long = length-bytes (take i xs) in
    let few = length-take-le i xs (omega arith) in
    filled_lent (bytes_of_words (take i xs)) (two_bytes (get_or xs i 0)) d e back (2 * i) p (omega arith) (omega arith) q
    ∙ ap (λ (x : List ℕ). filled x d) (sym (bytes_next xs i h))

pub bytes_end : (xs d e : List ℕ) (i : ℕ) → e ≡ filled (bytes_of_words (take i xs)) d → length xs ≤ i → e ≡ filled (bytes_of_words xs) d
bytes_end xs d e i p h = p ∙ ap (λ (x : List ℕ). filled (bytes_of_words x) d) (take_all i xs h)
