-- Text put into a buffer.
use Rattle.std.specs.Prelude.{ℕ, ◌+◌, ◌-◌, ◌≤◌, ◌≡◌, ◌⊎◌, List, Option, IfSome, length, ltb, leb}
use Rattle.std.specs.Fmt.Cut.{IsTextOrCut}
use Rattle.std.proofs.Math.Seq.{paste}
use Rattle.outline.specs.Tests.{both, choose}

-- text was put at `at`, up to `end`: all of it, or as much as there is room for
pub record Wrote (before : List ℕ) (at : ℕ) (text after : List ℕ) (end : ℕ) : Type 0 where
  pub bytes : ℕ
  pub ends : end ≡ at + bytes
  pub is : after ≡ paste before at text bytes
  pub all : (bytes ≡ length text) ⊎ (length before ≤ end)

-- a line was put at `at`, up to `end`, as `Wrote` says: it is the line's text, where that is known, unless that had to be cut and ends in dots
pub record WroteLine (before : List ℕ) (at : ℕ) (line : Option (List ℕ)) (after : List ℕ) (end : ℕ) : Type 0 where
  pub text : List ℕ
  pub is : IfSome line (λ bs. IsTextOrCut 128 bs text)
  pub wrote : Wrote before at text after end

-- the next line goes after n bytes of a buffer, or to its start where little room is left
abbrev pub next_line : ℕ → ℕ → ℕ
next_line n size = choose (both (ltb n size) (leb 128 (size - n))) n 0
