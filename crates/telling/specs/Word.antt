-- The 64-bit word that each function of include/fares.h returns.
use Rattle.std.specs.Prelude.{ℕ, ◌+◌, ◌*◌, Ok, Err}
use Rattle.outline.specs.declared.Refusal.{Refusal}
use Rattle.outline.specs.Refusals.{number_of, place_of, Judged}
use Rattle.outline.specs.Lending.{count_of, refusal_of, refusal_place_of, Written}

-- "bits 0 to 31 how many were written, bits 32 to 39 the refusal's number (0: none), bits 40 to 63 its place"
abbrev pub word : ℕ → ℕ → ℕ → ℕ
word count number place = count + 4294967296 * number + 1099511627776 * place

-- what 24 bits hold is less than this
abbrev pub most_place : ℕ
most_place = 16777216

abbrev pub refused_word : Refusal → ℕ
refused_word x = word 0 (number_of x) (place_of x)

-- "0: good"
abbrev pub judged_word : Judged → ℕ
judged_word (Ok _) = 0
judged_word (Err x) = refused_word x

abbrev pub written_word : Written → ℕ
written_word w = word (count_of w) (refusal_of w) (refusal_place_of w)

-- "length in bits 0-31, offset in bits 40-63; 0: empty"
abbrev pub part_word : ℕ → ℕ → ℕ
part_word offset length = word length 0 offset
