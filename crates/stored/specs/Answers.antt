-- How a book's verdict is told, and what a reader or a writer did.
use Rattle.std.specs.Prelude.{ℕ, Bool, true, false, List, ◌++◌, codes, decimal, Ok, Err}
use Rattle.outline.specs.Lending.{Written}
use Rattle.outline.specs.Refusals.{Judged}
use Rattle.text.specs.Answers.{refused_text}

abbrev pub judged_text : Judged → List ℕ
judged_text (Ok _) = codes "ok\n"
judged_text (Err x) = refused_text x ++ codes "\n"

abbrev pub written_text : Written → List ℕ
written_text (Ok n) = codes "wrote " ++ decimal n
written_text (Err x) = refused_text x

-- whether a book or a sheet comes back from a round trip
abbrev pub back_text : Bool → List ℕ
back_text true = codes "back"
back_text false = codes "lost"

abbrev pub done_text : Written → ℕ → Bool → List ℕ
done_text written sum back = written_text written ++ (codes " " ++ (decimal sum ++ (codes " " ++ (back_text back ++ codes "\n"))))
