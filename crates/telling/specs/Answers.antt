-- The 18 numbers that tell an answer, and what a price or a question returns and leaves.
use Rattle.std.specs.Prelude.{ℕ, ◌≡◌, List, [], ◌∷◌, ◌++◌}
use Rattle.outline.specs.declared.Paid.{Paid}
use Rattle.outline.specs.declared.Paid.TheVariants.{Full, ByRule}
use Rattle.outline.specs.declared.Ride.{Ride}
use Rattle.outline.specs.declared.Question.{Question}
use Rattle.outline.specs.declared.Answer.{Answer}
use Rattle.outline.specs.Questions.{Asked}
use Rattle.outline.specs.Lending.{answered, leaves, Written}
use Rattle.telling.specs.Word.{written_word}

-- "how it was paid (the rule's number, or 255 for full)"
abbrev pub paid_number : Paid → ℕ
paid_number Full = 255
paid_number (ByRule k) = k

-- "for each of the four places company, boarding, alighting and how it was paid"
unfoldable pub place_numbers : Ride → List ℕ
place_numbers p = p.company ∷ p.boarding ∷ p.alighting ∷ paid_number p.paid ∷ []

unfoldable pub places_numbers : List Ride → List ℕ
places_numbers [] = []
places_numbers (p ∷ places) = place_numbers p ++ places_numbers places

-- "An answer is 18 numbers: fare, rides, then .. the four places"
unfoldable pub answer_numbers : Answer → List ℕ
answer_numbers a = a.fare ∷ a.rides ∷ places_numbers a.places

-- written, or why not: "With less room the refusal is 13, after all others."
abbrev pub answer_written : Answer → List ℕ → Written
answer_written a lent = answered a.judged (answer_numbers a) lent

-- r is returned and `after` stands in the lent list, as this answer says
pub record Tells (a : Answer) (lent : List ℕ) (r : ℕ) (after : List ℕ) : Type 0 where
  pub returned : r ≡ written_word (answer_written a lent)
  pub left : after ≡ leaves (answer_written a lent) (answer_numbers a) lent

-- the same, of an answer to the question
pub record TellsCheapest (book : List ℕ) (q : Question) (lent : List ℕ) (r : ℕ) (after : List ℕ) : Type 0 where
  pub answer : Answer
  pub asked : Asked book q answer
  pub tells : Tells answer lent r after

-- a question, of its five numbers
abbrev pub question : ℕ → ℕ → ℕ → ℕ → ℕ → Question
question from_company from_station to_company to_station limit = record {
  from = record { company = from_company; number = from_station };
  to = record { company = to_company; number = to_station };
  limit = limit;
}
