-- Document 01, "What is refused, and when": the numbers and places, and how refusals follow one another.
use Rattle.std.specs.Prelude.{ℕ, zero, suc, Bool, true, false, Result, Ok, Err}
use Rattle.outline.specs.declared.Refusal.{Refusal}
use Rattle.outline.specs.declared.Refusal.TheVariants.{WrongLength, UnknownLayout, OutsideLimits, BadContents, BadStations, BadEntry, BadLink, BadRule, UnknownStation, SameStation, BadLimit, NoRoute, NoRoom, BadRide}

-- good, or what is refused
abbrev pub Judged : Type 0
Judged = Result (Unit {0}) Refusal

abbrev pub number_of : Refusal → ℕ
number_of WrongLength = 1  -- "book or sheet ends early, or a sheet goes on"
number_of UnknownLayout = 2  -- "layout is not 1 (book)"
number_of OutsideLimits = 3  -- "C, L or R outside its limits"
number_of (BadContents entry) = 4  -- "a contents entry is wrong (book)"
number_of (BadStations company) = 5  -- "n outside 2 to 40"
number_of (BadEntry place) = 6  -- "diagonal not 0, or an entry above 9,999"
number_of (BadLink link) = 7  -- "bad or repeated link"
number_of (BadRule rule) = 8  -- "bad rule"
number_of (UnknownStation end) = 9  -- "station not in the book"
number_of SameStation = 10  -- "both stations the same"
number_of BadLimit = 11  -- "ride limit outside 1 to 4"
number_of NoRoute = 12  -- "no admissible route within the limit"
number_of NoRoom = 13  -- "lent buffer shorter than the result"
number_of (BadRide ride) = 14  -- "given route not admissible"

abbrev pub place_of : Refusal → ℕ
place_of WrongLength = 0
place_of UnknownLayout = 0
place_of OutsideLimits = 0
place_of (BadContents entry) = entry
place_of (BadStations company) = company
place_of (BadEntry place) = place  -- "offset in the book of the entry's first byte, or its index in the sheet"
place_of (BadLink link) = link
place_of (BadRule rule) = rule
place_of (UnknownStation end) = end  -- "0 from, 1 to"
place_of SameStation = 0
place_of BadLimit = 0
place_of NoRoute = 0
place_of NoRoom = 0
place_of (BadRide ride) = ride  -- "first bad ride"

-- refused unless the test holds; where it holds, what comes next
unfoldable pub demand : Bool → Refusal → Judged → Judged
demand true x next = next
demand false x next = Err x

-- a refusal stands; after good comes the next
infixr 30 ◌and_then◌
unfoldable pub ◌and_then◌ : Judged → Judged → Judged
Ok _ and_then next = next
Err x and_then next = Err x

-- f 0, f 1, .., n of them, one after the other: good, or refused at the first place
unfoldable pub first_below : (ℕ → Judged) → ℕ → Judged
first_below f zero = Ok tt
first_below f (suc n) = first_below f n and_then f n
