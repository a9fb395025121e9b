-- The numbers of an answer's places, one place after the other.
use Prim.Native.Nat.{ℕ, ◌+◌, ◌*◌, ◌-◌, ◌≤◌, ◌<◌}
use mathlib.Core.Path.{◌≡◌, refl, sym, ap, ◌∙◌}
use mathlib.Core.List.{List, [], ◌∷◌, ◌++◌, append_assoc}
use native.Mathlib.Numerals.{add-one}
use native.Mathlib.Omega.{arith}
use lib.ListN.{length, get_or, take, drop}
use lib.Seq.{take-suc, take_all, length-take-le}
use Rattle.outline.specs.declared.Ride.{Ride}
use Rattle.outline.specs.declared.Answer.{Answer}
use Rattle.outline.specs.Lending.{filled}
use Rattle.telling.specs.Answers.{place_numbers, places_numbers, answer_numbers}
use Rattle.filling.proofs.Filled.{length-filled, filled_lent}

pub places_length : (places : List Ride) → length (places_numbers places) ≡ 4 * length places
unfolding places_numbers place_numbers
places_length [] = refl
places_length (p ∷ places) = omega (arith, places_length places)

places_append : (s t : List Ride) → places_numbers (s ++ t) ≡ places_numbers s ++ places_numbers t
unfolding places_numbers
places_append [] t = refl
places_append (p ∷ s) t = rw (places_append s t, append_assoc)

-- one place more
pub places_next : (places : List Ride) (i : ℕ) (p : Ride) → i < length places
    → places_numbers (take (i + 1) places) ≡ places_numbers (take i places) ++ place_numbers (get_or places i p)
unfolding places_numbers place_numbers
places_next places i p h = ap (λ (n : ℕ). places_numbers (take n places)) (add-one i) ∙ ap places_numbers (take-suc places i p h) ∙ places_append (take i places) (get_or places i p ∷ [])

pub numbers_length : (a : Answer) → length a.places ≡ 4 → length (answer_numbers a) ≡ 18
unfolding answer_numbers
numbers_length a h = omega (arith, places_length a.places)

-- ---- the places put into a lent list

-- e is the lent list d with the first i of four places in it
pub record Put (places : List Ride) (d e : List ℕ) (i : ℕ) : Type 0 where
  pub few : i ≤ 4
  pub long : length e ≡ length d
  pub is : e ≡ filled (places_numbers (take i places)) d

module _ (places : List Ride) (four : length places ≡ 4) (d : List ℕ) (room : 16 ≤ length d) where
  numbers_below : (i : ℕ) → i ≤ 4 → length (places_numbers (take i places)) ≡ 4 * i
  numbers_below i h = places_length (take i places) ∙ ap (λ (n : ℕ). 4 * n) (length-take-le i places (omega arith))

  put_is : (e : List ℕ) (i : ℕ) → i ≤ 4 → e ≡ filled (places_numbers (take i places)) d → Put places d e i
  put_is e i h q = record { few = h; long = ap length q ∙ length-filled _ d (omega (arith, numbers_below i h)); is = q }

  pub put_none : Put places d d 0
  unfolding filled places_numbers
  put_none = put_is d 0 (omega arith) refl

  pub put_more : (e back : List ℕ) (i : ℕ) (p : Ride) → Put places d e i → i < 4
      → back ≡ filled (place_numbers (get_or places i p)) (take (length e - 4 * i) (drop (4 * i) e))
      → Put places d (take (4 * i) e ++ (back ++ drop (length e - 4 * i) (drop (4 * i) e))) (i + 1)
  unfolding place_numbers
  put_more e back i p w h q =
      let here : length (places_numbers (take i places)) ≡ 4 * i = numbers_below i w.few in
      put_is _ (i + 1) (omega arith)
      (filled_lent (places_numbers (take i places)) (place_numbers (get_or places i p)) d e back (4 * i) w.is (sym here) (omega arith) q
      ∙ ap (λ (x : List ℕ). filled x d) (sym (places_next places i p (omega arith))))

  pub put_all : (e : List ℕ) (i : ℕ) → Put places d e i → 4 ≤ i → e ≡ filled (places_numbers places) d
  put_all e i w h = w.is ∙ ap (λ (x : List Ride). filled (places_numbers x) d) (take_all i places (omega arith))
