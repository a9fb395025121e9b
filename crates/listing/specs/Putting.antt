-- Text put into a lent list.
use Rattle.std.specs.Prelude.{ℕ, ◌+◌, ◌≡◌, List, ◌++◌, length, take, drop}

unfoldable pub put_at : List ℕ → ℕ → List ℕ → List ℕ
put_at before at text = take at before ++ (text ++ drop (at + length text) before)

-- the text stands at `at`, the rest is as it was, and `end` is where it ends
pub record Put (before : List ℕ) (at : ℕ) (text after : List ℕ) (end : ℕ) : Type 0 where
  pub is : after ≡ put_at before at text
  pub ends : end ≡ at + length text
