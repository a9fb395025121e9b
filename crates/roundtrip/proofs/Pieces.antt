-- Pieces of a list: where a list that is put together has them, and what stands at a place that a piece begins at.
use Prim.Native.Nat.{ℕ, zero, suc, ◌+◌, ◌*◌, ◌/◌, ◌%◌, ◌≤◌, ◌<◌}
use mathlib.Core.Path.{◌≡◌, refl, sym, ap, ap₂, ◌∙◌}
use mathlib.Core.List.{List, [], ◌∷◌, ◌++◌}
use native.Mathlib.Omega.{arith}
use lib.ListN.{length, get_or, take, drop, length-drop, take-append-drop}
use lib.Seq.{take_at, drop_at, get_or_at, take-append-le, drop-append-le, take-length, drop-drop, get_or-drop, ext_get_or}
use Rattle.outline.specs.Tests.{list_of, part}
use Rattle.outline.specs.Book.{word_at, words}
use Rattle.outline.specs.Writing.{two_bytes, bytes_of_words}
use Rattle.laws.proofs.Tests.{get_or-list_of, length-list_of}
use Rattle.laws.proofs.Reading.{part_one}

-- ---- pieces of a list that is put together

pub part_skip : (xs ys : List ℕ) (a i n : ℕ) → length xs ≡ a → part (xs ++ ys) (a + i) n ≡ part ys i n
part_skip xs ys a i n h = ap (take n) (sym (drop-drop i a (xs ++ ys)) ∙ ap (drop i) (drop_at xs ys a h))

pub part_first : (xs ys : List ℕ) (i n : ℕ) → i + n ≤ length xs → part (xs ++ ys) i n ≡ part xs i n
part_first xs ys i n h =
    ap (take n) (drop-append-le i xs ys (omega arith))
    ∙ take-append-le n (drop i xs) ys (omega (arith, length-drop i xs))

-- a piece, and what follows it
pub tail_of : (s xs : List ℕ) (at m : ℕ) → part s at m ≡ xs → drop at s ≡ xs ++ drop m (drop at s)
tail_of s xs at m e = sym (take-append-drop m (drop at s)) ∙ ap (λ (x : List ℕ). x ++ drop m (drop at s)) e

pub piece_at : (s pre mid post : List ℕ) (at i n : ℕ) → drop at s ≡ pre ++ (mid ++ post) → length pre ≡ i → length mid ≡ n → part s (at + i) n ≡ mid
piece_at s pre mid post at i n e h k =
    ap (take n) (sym (drop-drop i at s) ∙ ap (drop i) e ∙ drop_at pre (mid ++ post) i h) ∙ take_at mid post n k

pub number_at : (s pre post : List ℕ) (x at i : ℕ) → drop at s ≡ pre ++ (x ∷ post) → length pre ≡ i → get_or s (at + i) 0 ≡ x
number_at s pre post x at i e h = sym (get_or-drop at s i 0) ∙ ap (λ (l : List ℕ). get_or l i 0) e ∙ get_or_at pre x post 0 i h

-- the whole of a list is its part from 0 on
pub part_whole : (s : List ℕ) (n : ℕ) → n ≡ length s → part s 0 n ≡ s
part_whole s n e = ap (λ (m : ℕ). take m s) e ∙ take-length s

pub part_four : (s : List ℕ) (at : ℕ) → at + 4 ≤ length s → part s at 4 ≡ get_or s at 0 ∷ get_or s (at + 1) 0 ∷ get_or s (at + 2) 0 ∷ get_or s (at + 3) 0 ∷ []
part_four s at h =
    let two : at + 1 + 1 ≡ at + 2 = omega arith in
    let three : at + 1 + 1 + 1 ≡ at + 3 = omega arith in
    part_one s at 3 (omega arith)
    ∙ ap (λ (x : List ℕ). get_or s at 0 ∷ x)
    (part_one s (at + 1) 2 (omega arith)
    ∙ ap (λ (x : List ℕ). get_or s (at + 1) 0 ∷ x)
    (part_one s (at + 1 + 1) 1 (omega arith)
    ∙ ap₂ (λ (y : ℕ) (x : List ℕ). y ∷ x) (ap (λ (i : ℕ). get_or s i 0) two)
    (part_one s (at + 1 + 1 + 1) 0 (omega arith) ∙ ap (λ (i : ℕ). get_or s i 0 ∷ []) three)))

-- ---- lists by their items

pub listed {ℓ} : {A : Type ℓ} (f : ℕ → A) (xs : List A) (d : A) (n : ℕ) → n ≡ length xs → ((k : ℕ) → k < n → f k ≡ get_or xs k d) → list_of f n ≡ xs
listed f xs d n e h =
    ext_get_or d (list_of f n) xs (length-list_of f n ∙ e) (λ k l. let m : k < n = omega (arith, length-list_of f n) in get_or-list_of f n k d m ∙ h k m)

-- ---- two-byte numbers

pub words_bytes : (xs : List ℕ) → words (bytes_of_words xs) ≡ xs
unfolding words bytes_of_words two_bytes
words_bytes [] = refl
words_bytes (x ∷ xs) = let e : x % 256 + 256 * (x / 256) ≡ x = omega arith in ap₂ (λ (a : ℕ) (t : List ℕ). a ∷ t) e (words_bytes xs)

pub bytes_words : (b : List ℕ) (n : ℕ) → length b ≡ 2 * n → ((i : ℕ) → get_or b i 0 < 256) → bytes_of_words (words b) ≡ b
unfolding words bytes_of_words two_bytes
bytes_words [] n e h = refl
bytes_words (x ∷ []) n e h = absurd (omega arith)
bytes_words (x ∷ y ∷ t) zero e h = absurd (omega arith)
bytes_words (x ∷ y ∷ t) (suc n) e h =
    let p : x < 256 = h 0 in
    let q : y < 256 = h 1 in
    let low : (x + 256 * y) % 256 ≡ x = omega arith in
    let high : (x + 256 * y) / 256 ≡ y = omega arith in
    rw (low, high) (ap (λ (u : List ℕ). x ∷ y ∷ u) (bytes_words t n (omega arith) (λ i. h (suc (suc i)))))

-- a number written in two bytes reads back
pub word_back : (s post : List ℕ) (x at : ℕ) → drop at s ≡ two_bytes x ++ post → word_at s at ≡ x
unfolding word_at two_bytes
word_back s post x at e =
    let zero_more : at + 0 ≡ at = omega arith in
    let low : get_or s at 0 ≡ x % 256 = ap (λ (i : ℕ). get_or s i 0) (sym zero_more) ∙ number_at s [] (x / 256 ∷ post) (x % 256) at 0 e refl in
    let high : get_or s (at + 1) 0 ≡ x / 256 = number_at s (x % 256 ∷ []) post (x / 256) at 1 e refl in
    rw (low, high) (omega arith)

-- two bytes that are read are written again
pub word_again : (b : List ℕ) (at : ℕ) → get_or b at 0 < 256 → get_or b (at + 1) 0 < 256 → two_bytes (word_at b at) ≡ get_or b at 0 ∷ get_or b (at + 1) 0 ∷ []
unfolding word_at two_bytes
word_again b at p q =
    let low : (get_or b at 0 + 256 * get_or b (at + 1) 0) % 256 ≡ get_or b at 0 = omega arith in
    let high : (get_or b at 0 + 256 * get_or b (at + 1) 0) / 256 ≡ get_or b (at + 1) 0 = omega arith in
    rw (low, high) refl
