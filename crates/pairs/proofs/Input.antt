-- A block that was read whole has the first 65,536 bytes of the input.
use Rattle.std.proofs.Common.{◌≡◌, ℕ, ◌≤◌, ◌<◌, Bool, true, false, List, [], ◌++◌, length, take, refl, sym, ap, subst, ◌∙◌, arith, length-take-le, take_all}
use Rattle.std.specs.Prelude.{Option, Some, None, IfSome, ltb}
use Rattle.std.specs.Io.KnownBytes.{Consumes, IsAtEnd}
use Rattle.std.proofs.Math.Seq.{take-append_seam}
use Rattle.std.proofs.lemmas.List.{append-nil}
use borrow.Author.Tests.{ltb-true, ltb-false}

-- what was read is the first bytes of the input, whether it ends there or goes on
first_bytes : (part rest : List ℕ) (n : ℕ) → length part ≡ n → n ≤ 65536 → (n < 65536 → rest ≡ []) → take 65536 (part ++ rest) ≡ part
first_bytes part rest n long within whole = go (ltb n 65536) refl
  where
    go : (t : Bool) → ltb n 65536 ≡ t → take 65536 (part ++ rest) ≡ part
    go true e =
        ap (λ (s : List ℕ). take 65536 (part ++ s)) (whole (ltb-true _ _ e))
        ∙ ap (take 65536) (append-nil part)
        ∙ take_all 65536 part (omega arith)
    go false e =
        let full : 65536 ≡ length part = omega (arith, ltb-false _ _ e) in
        ap (λ (m : ℕ). take m (part ++ rest)) full ∙ take-append_seam part rest

-- what holds of the block holds of the first bytes of the input
pub of_input : (P : List ℕ → Type 0) (known rest : Option (List ℕ)) (block : List ℕ) (n : ℕ)
    → length block ≡ 65536 → n ≤ length block → Consumes known rest (take n block) → (n < length block → IsAtEnd rest)
    → P (take n block) → IfSome known (λ input. P (take 65536 input))
of_input P None rest block n long within read whole p = tt
of_input P (Some input) None block n long within read whole p = absurd read
of_input P (Some input) (Some rest) block n long within read whole p =
    let first = first_bytes (take n block) rest n (length-take-le n block within) (omega arith) (λ h. whole (omega arith)) in
    subst P (sym (ap (take 65536) read ∙ first)) p
