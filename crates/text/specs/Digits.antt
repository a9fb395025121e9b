-- What a hex digit is worth.
use Rattle.std.specs.Prelude.{ℕ, ◌+◌, ◌<◌, ◌≡◌, cond, nat_lt}

-- the code of a digit below 16: `0` to `9`, then `a` to `f`
abbrev pub hex_digit_ascii : ℕ → ℕ
hex_digit_ascii d = cond (nat_lt d 10) (48 + d) (87 + d)

-- v is the value of the hex digit x, and no number below 16 where x is none
pub record ValueOf (x v : ℕ) : Type 0 where
  pub digit : v < 16 → hex_digit_ascii v ≡ x
  pub only : (d : ℕ) → d < 16 → hex_digit_ascii d ≡ x → v ≡ d
