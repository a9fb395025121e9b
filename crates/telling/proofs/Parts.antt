-- A word tells its parts: what stands in bits 0 to 31, 32 to 39 and 40 to 63.
use Prim.Native.Nat.{ℕ, ◌/◌, ◌%◌, ◌<◌}
use mathlib.Core.Path.{◌≡◌}
use native.Mathlib.Omega.{arith}
use Rattle.telling.specs.Word.{word, most_place}

pub record Parts (w count number place : ℕ) : Type 0 where
  pub count_is : w % 4294967296 ≡ count
  pub number_is : w / 4294967296 % 256 ≡ number
  pub place_is : w / 1099511627776 ≡ place

pub word_parts : (count number place : ℕ) → count < 4294967296 → number < 256 → place < most_place → Parts (word count number place) count number place
word_parts count number place c n p = record { count_is = omega arith; number_is = omega arith; place_is = omega arith }
