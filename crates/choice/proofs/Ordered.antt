-- The order of selections: reflexive, transitive, total, and no two selections each count rather than the other.
-- "Fewest runs, then the least list" is the order of one list of numbers, which begins with the number of runs.
use Prim.Native.Nat.{ℕ}
use mathlib.Core.Path.{◌≡◌, refl, sym, ◌∙◌}
use mathlib.Core.Logic.{◌⊎◌, inl, inr, ⊎_elim}
use mathlib.Core.List.{List, [], ◌∷◌}
use native.Mathlib.Omega.{arith}
use lib.ListN.{length}
use Rattle.outline.specs.declared.Run.{Run}
use Rattle.outline.specs.Lexical.{LexLe}
use Rattle.outline.specs.Selections.{Earn, total, numbers, Counts}
use Rattle.laws.proofs.Tests.{compared}
use Rattle.laws.proofs.Lexical.{lex_same, lex_then, lex_only, lex_total}

same_run : (p q : Run) → p.first ≡ q.first → p.rides ≡ q.rides → p.rule ≡ q.rule → p ≡ q
same_run p q a b c = λ i. record { first = a i; rides = b i; rule = c i }

numbers_only : (s t : List Run) → numbers s ≡ numbers t → s ≡ t
unfolding numbers
numbers_only [] [] e = refl
numbers_only [] (q ∷ t) e = absurd (let z : ◌≡◌ {A = ℕ} 0 1 = cc in omega arith)
numbers_only (p ∷ s) [] e = absurd (let z : ◌≡◌ {A = ℕ} 0 1 = cc in omega arith)
numbers_only (p ∷ s) (q ∷ t) e = let r = numbers_only s t (cc) in let h = same_run p q (cc) (cc) (cc) in cc

pub counts_same : (earn : Earn) (s : List Run) → Counts earn s s
counts_same earn s = inr (refl, inr (refl, lex_same (numbers s)))

pub counts_then : (earn : Earn) (s t v : List Run) → Counts earn s t → Counts earn t v → Counts earn s v
unfolding LexLe
counts_then earn s t v (inl a) (inl b) = inl (omega arith)
counts_then earn s t v (inl a) (inr b) = inl (omega arith)
counts_then earn s t v (inr a) (inl b) = inl (omega arith)
counts_then earn s t v (inr a) (inr b) = inr (a.0 ∙ b.0, lex_then (length s ∷ numbers s) (length t ∷ numbers t) (length v ∷ numbers v) a.1 b.1)

pub counts_only : (earn : Earn) (s t : List Run) → Counts earn s t → Counts earn t s → s ≡ t
unfolding LexLe
counts_only earn s t (inl a) (inl b) = absurd (omega arith)
counts_only earn s t (inl a) (inr b) = absurd (omega arith)
counts_only earn s t (inr a) (inl b) = absurd (omega arith)
counts_only earn s t (inr a) (inr b) =
    let e = lex_only (length s ∷ numbers s) (length t ∷ numbers t) a.1 b.1 in
    numbers_only s t (cc)

pub counts_total : (earn : Earn) (s t : List Run) → Counts earn s t ⊎ Counts earn t s
unfolding LexLe
counts_total earn s t =
    ⊎_elim (λ h. inr (inl h))
    (⊎_elim (λ e. ⊎_elim (λ h. inl (inr (e, h))) (λ h. inr (inr (sym e, h))) (lex_total (length s ∷ numbers s) (length t ∷ numbers t))) (λ h. inl (inl h)))
    (compared (total earn s) (total earn t))
