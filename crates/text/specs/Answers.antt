-- How answers are told: numbers in decimal digits, and words.
use Rattle.std.specs.Prelude.{ℕ, List, ◌++◌, take, codes, decimal, flat_map, Ok, Err}
use Rattle.outline.specs.declared.Refusal.{Refusal}
use Rattle.outline.specs.declared.Paid.{Paid}
use Rattle.outline.specs.declared.Paid.TheVariants.{Full, ByRule}
use Rattle.outline.specs.declared.Ride.{Ride}
use Rattle.outline.specs.declared.Answer.{Answer}
use Rattle.outline.specs.Refusals.{number_of, place_of, Judged}

-- `refused`, the refusal's number and its place
abbrev pub refused_text : Refusal → List ℕ
refused_text x = codes "refused " ++ (decimal (number_of x) ++ (codes " " ++ decimal (place_of x)))

-- how a ride was paid for: `full`, or the rule's number
abbrev pub paid_text : Paid → List ℕ
paid_text Full = codes "full"
paid_text (ByRule rule) = decimal rule

-- after a space each: the ride's company, both its stations, and how it was paid for
abbrev pub ride_text : Ride → List ℕ
ride_text r = codes " " ++ (decimal r.company ++ (codes " " ++ (decimal r.boarding ++ (codes " " ++ (decimal r.alighting ++ (codes " " ++ paid_text r.paid))))))

-- the line of an answer: the fare, the number of rides and each ride, or the refusal
abbrev pub told : Judged → Answer → List ℕ
told (Ok _) a = codes "fare " ++ (decimal a.fare ++ (codes " rides " ++ (decimal a.rides ++ (flat_map ride_text (take a.rides a.places) ++ codes "\n"))))
told (Err x) a = refused_text x ++ codes "\n"

abbrev pub answer_text : Answer → List ℕ
answer_text a = told a.judged a
