-- The pair lister's example of document 01: "With companies A0–A1 130 and B0–B1 120, link A1–B0, and one rule A,B of 10 yen (A0, B1, link 0)".
use Rattle.std.specs.Prelude.{ℕ, List, [], ◌∷◌, ◌++◌}
use Rattle.outline.specs.Lister.{bytes_of_text}
use Rattle.cases.specs.Books.{entry, pair, onward, for_two}

abbrev pub example : List ℕ
example =
    (1 ∷ 2 ∷ 1 ∷ 1 ∷ [])
    ++ entry 20 9 ++ entry 29 9 ++ entry 38 4 ++ entry 42 33
    ++ pair 130 ++ pair 120
    ++ onward 0 1
    ++ for_two 0 1 10 1

-- "the output is:"
abbrev pub example_lines : List ℕ
example_lines =
    bytes_of_text "0 0 0 1 130 1\n"
    ++ bytes_of_text "0 0 1 0 none 0\n"
    ++ bytes_of_text "0 0 1 1 240 2\n"
    ++ bytes_of_text "0 1 0 0 130 1\n"
    ++ bytes_of_text "0 1 1 0 none 0\n"
    ++ bytes_of_text "0 1 1 1 none 0\n"
    ++ bytes_of_text "1 0 0 0 none 0\n"
    ++ bytes_of_text "1 0 0 1 none 0\n"
    ++ bytes_of_text "1 0 1 1 120 1\n"
    ++ bytes_of_text "1 1 0 0 250 2\n"
    ++ bytes_of_text "1 1 0 1 none 0\n"
    ++ bytes_of_text "1 1 1 0 120 1\n"

-- "A refused book gives one line": that of the empty input
abbrev pub empty_line : List ℕ
empty_line = bytes_of_text "refused 1 0\n"
