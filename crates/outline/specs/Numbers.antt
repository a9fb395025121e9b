-- Document 01, "Numbers".
use Rattle.std.specs.Prelude.{ℕ}

-- "Companies 1 to 16."
abbrev pub most_companies : ℕ
most_companies = 16

-- "Stations per company 2 to 40."
abbrev pub least_stations : ℕ
least_stations = 2

abbrev pub most_stations : ℕ
most_stations = 40

-- "Links 0 to 128. Rules 0 to 32."
abbrev pub most_links : ℕ
most_links = 128

abbrev pub most_rules : ℕ
most_rules = 32

-- "Rides in a route 1 to 4."
abbrev pub most_rides : ℕ
most_rides = 4

-- "A fare is 1 to 9,999 yen"
abbrev pub most_fare : ℕ
most_fare = 9999

-- "A discount is 1 to 999 yen."
abbrev pub most_amount : ℕ
most_amount = 999

-- "A run is two to four rides in a row." "Rule, 33 bytes: m (2 to 4)"
abbrev pub least_run : ℕ
least_run = 2

abbrev pub most_run : ℕ
most_run = 4

-- "four company bytes, the first m existing, .. the rest 255"
abbrev pub no_company : ℕ
no_company = 255
