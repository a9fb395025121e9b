-- Document 01, "The pair lister reads a book on standard input and prints": its lines, a byte a character.
use Rattle.std.specs.Prelude.{ℕ, zero, suc, ◌+◌, ◌/◌, ◌%◌, not, List, [], ◌∷◌, ◌++◌, take, ltb, Ok, Err}
use Prim.Native.Char.{code}
use Prim.Native.String.{String, [] as []ᵗ, ◌∷◌ as ◌∷ᵗ◌}
use Rattle.outline.specs.declared.Station.{Station}
use Rattle.outline.specs.declared.Question.{Question}
use Rattle.outline.specs.declared.Answer.{Answer}
use Rattle.outline.specs.declared.Refusal.{Refusal}
use Rattle.outline.specs.Numbers.{most_rides}
use Rattle.outline.specs.Tests.{choose, list_of, in_order}
use Rattle.outline.specs.Refusals.{number_of, place_of, Judged}
use Rattle.outline.specs.Network.{Network, same_station}
use Rattle.outline.specs.Book.{network}
use Rattle.outline.specs.Judging.{book_check}
use Rattle.outline.specs.Listing.{those, of_each, found_of}

abbrev pub station : ℕ → ℕ → Station
station c i = record { company = c; number = i }

-- every station of the book, rising
unfoldable pub all_stations : Network → List Station
all_stations N = in_order (λ c. list_of (station c) (N.stations c)) N.companies

-- "The ride limit is 4."
abbrev pub pair_of : Station → Station → Question
pair_of x y = record { from = x; to = y; limit = most_rides }

-- "one line per ordered pair of different stations, from-station outermost, both rising"
unfoldable pub pairs_from : Network → Station → List Question
pairs_from N x = of_each (λ y. pair_of x y ∷ []) (those (λ y. not (same_station x y)) (all_stations N))

unfoldable pub pairs : Network → List Question
pairs N = of_each (pairs_from N) (all_stations N)

-- a text, a byte a character
abbrev pub bytes_of_text : String → List ℕ
bytes_of_text []ᵗ = []
bytes_of_text (c ∷ᵗ text) = code c ∷ bytes_of_text text

abbrev pub space : ℕ
space = code " "

abbrev pub line_feed : ℕ
line_feed = code "\n"

abbrev pub digit : ℕ → ℕ
digit d = code "0" + d

-- a number in decimal digits, the highest first, where n digits are enough
unfoldable pub digits_within : ℕ → ℕ → List ℕ
digits_within zero x = []
digits_within (suc n) x = choose (ltb x 10) (digit x ∷ []) (digits_within n (x / 10) ++ (digit (x % 10) ∷ []))

unfoldable pub decimal : ℕ → List ℕ
decimal x = digits_within (suc x) x

-- "fields one space apart, every line ended by a line feed": a number, and what stands after it
unfoldable pub field : ℕ → ℕ → List ℕ
field x after = decimal x ++ (after ∷ [])

-- "from company, from station, to company, to station, fare, rides, with `none 0` for refusal 12"
unfoldable pub station_fields : Station → List ℕ
station_fields x = field x.company space ++ field x.number space

unfoldable pub fare_field : Judged → ℕ → List ℕ
fare_field (Ok _) fare = field fare space
fare_field (Err x) fare = bytes_of_text "none "

unfoldable pub answer_fields : Answer → List ℕ
answer_fields a = fare_field a.judged a.fare ++ field a.rides line_feed

unfoldable pub line_of : Question → Answer → List ℕ
line_of q a = (station_fields q.from ++ station_fields q.to) ++ answer_fields a

unfoldable pub pair_line : Network → Question → List ℕ
pair_line N q = line_of q (found_of N q)

-- "A refused book gives one line: `refused`, number, place."
unfoldable pub refused_line : Refusal → List ℕ
refused_line x = bytes_of_text "refused " ++ (field (number_of x) space ++ field (place_of x) line_feed)

unfoldable pub lines_of : Judged → Network → List ℕ
lines_of (Ok _) N = of_each (pair_line N) (pairs N)
lines_of (Err x) N = refused_line x

-- "Input over 65,536 bytes is judged by its first 65,536."
unfoldable pub lister_output : List ℕ → List ℕ
lister_output input = lines_of (book_check (take 65536 input)) (network (take 65536 input))
