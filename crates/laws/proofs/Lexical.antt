-- Laws of lists of numbers in order: the order is reflexive, transitive, antisymmetric and total.
use Prim.Native.Nat.{ℕ}
use mathlib.Core.Path.{◌≡◌, refl, sym, ◌∙◌}
use mathlib.Core.Logic.{◌⊎◌, inl, inr, ⊎_elim}
use mathlib.Core.List.{List, [], ◌∷◌}
use native.Mathlib.Omega.{arith}
use Rattle.outline.specs.Lexical.{LexLe}
use Rattle.laws.proofs.Tests.{compared}

pub lex_same : (s : List ℕ) → LexLe s s
unfolding LexLe
lex_same [] = tt
lex_same (a ∷ s) = inr (refl, lex_same s)

pub lex_then : (s t v : List ℕ) → LexLe s t → LexLe t v → LexLe s v
unfolding LexLe
lex_then [] t v h k = tt
lex_then (a ∷ s) [] v h k = absurd h
lex_then (a ∷ s) (b ∷ t) [] h k = absurd k
lex_then (a ∷ s) (b ∷ t) (c ∷ v) (inl x) (inl y) = inl (omega arith)
lex_then (a ∷ s) (b ∷ t) (c ∷ v) (inl x) (inr y) = inl (omega arith)
lex_then (a ∷ s) (b ∷ t) (c ∷ v) (inr x) (inl y) = inl (omega arith)
lex_then (a ∷ s) (b ∷ t) (c ∷ v) (inr x) (inr y) = inr (x.0 ∙ y.0, lex_then s t v x.1 y.1)

pub lex_only : (s t : List ℕ) → LexLe s t → LexLe t s → s ≡ t
unfolding LexLe
lex_only [] [] h k = refl
lex_only [] (b ∷ t) h k = absurd k
lex_only (a ∷ s) [] h k = absurd h
lex_only (a ∷ s) (b ∷ t) (inl x) (inl y) = absurd (omega arith)
lex_only (a ∷ s) (b ∷ t) (inl x) (inr y) = absurd (omega arith)
lex_only (a ∷ s) (b ∷ t) (inr x) (inl y) = absurd (omega arith)
lex_only (a ∷ s) (b ∷ t) (inr x) (inr y) = let e = lex_only s t x.1 y.1 in cc x.0

pub lex_total : (s t : List ℕ) → LexLe s t ⊎ LexLe t s
unfolding LexLe
lex_total [] t = inl tt
lex_total (a ∷ s) [] = inr tt
lex_total (a ∷ s) (b ∷ t) = ⊎_elim (λ h. inl (inl h)) (⊎_elim (λ e. ⊎_elim (λ h. inl (inr (e, h))) (λ h. inr (inr (sym e, h))) (lex_total s t)) (λ h. inr (inl h))) (compared a b)
