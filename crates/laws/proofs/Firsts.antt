-- Laws of refusals that follow one another: what a good answer tells, and which refusal is the first.
use Prim.Native.Nat.{ℕ, zero, suc, ◌+◌, ◌<◌}
use Rattle.std.specs.Result.{IsErrAnd}
use Rattle.std.proofs.Common.{Ok, Err, Result, is_err}
use Rattle.std.proofs.lemmas.Result.{err_from_is_err_and}
use mathlib.Core.Path.{◌≡◌, refl, sym, ◌∙◌}
use mathlib.Core.Bool.{Bool, true, false}
use mathlib.Core.Logic.{⊎_elim}
use native.Mathlib.Nat.{not-suc-le-zero, le_of_suc-le-suc, eq-or-lt_of_le}
use native.Mathlib.Numerals.{add-one}
use native.Mathlib.Omega.{arith}
use borrow.Author.Count.{below_more}
use Rattle.outline.specs.declared.Refusal.{Refusal}
use Rattle.outline.specs.Refusals.{demand, ◌and_then◌, first_below, Judged}

pub refused_not_good : {x : Refusal} → ◌≡◌ {A = Judged} (Err x) (Ok tt) → ⊥
refused_not_good e = let z : ◌≡◌ {A = ℕ} 0 1 = cc in omega arith

-- ---- what is demanded

pub demand_good : (t : Bool) (x : Refusal) (next : Judged) → demand t x next ≡ Ok tt → (t ≡ true) × (next ≡ Ok tt)
unfolding demand
demand_good true x next e = (refl, e)
demand_good false x next e = absurd (refused_not_good e)

pub demand_holds : (t : Bool) (x : Refusal) (next : Judged) → t ≡ true → demand t x next ≡ next
unfolding demand
demand_holds t x next e = rw e

pub demand_fails : (t : Bool) (x : Refusal) (next : Judged) → t ≡ false → demand t x next ≡ Err x
unfolding demand
demand_fails t x next e = rw e

-- ---- one after the other

pub then_good : (a next : Judged) → a and_then next ≡ Ok tt → (a ≡ Ok tt) × (next ≡ Ok tt)
unfolding ◌and_then◌
then_good (Ok _) next e = (refl, e)
then_good (Err x) next e = absurd (refused_not_good e)

pub then_next : (a next : Judged) → a ≡ Ok tt → a and_then next ≡ next
unfolding ◌and_then◌
then_next a next e = rw e

pub then_refused : (a next : Judged) (x : Refusal) → a ≡ Err x → a and_then next ≡ Err x
unfolding ◌and_then◌
then_refused a next x e = rw e

-- ---- the first of many

pub first_good : (f : ℕ → Judged) (n : ℕ) → first_below f n ≡ Ok tt → (k : ℕ) → k < n → f k ≡ Ok tt
unfolding first_below
first_good f zero e k h = absurd (not-suc-le-zero h)
first_good f (suc n) e k h =
    let p = then_good (first_below f n) (f n) e in
    below_more (λ (j : ℕ). f j ≡ Ok tt) n (first_good f n p.0) p.1 k (omega arith)

pub first_holds : (f : ℕ → Judged) (n : ℕ) → ((k : ℕ) → k < n → f k ≡ Ok tt) → first_below f n ≡ Ok tt
unfolding first_below
first_holds f zero h = refl
first_holds f (suc n) h = then_next _ _ (first_holds f n (λ k l. h k (omega arith))) ∙ h n (omega arith)

pub first_more : (f : ℕ → Judged) (k : ℕ) → first_below f k ≡ Ok tt → f k ≡ Ok tt → first_below f (k + 1) ≡ Ok tt
unfolding first_below
first_more f k p q = rw add-one (then_next _ _ p ∙ q)

-- the first refusal among n is that of k, where all before it are good
pub first_is : (f : ℕ → Judged) (n k : ℕ) (x : Refusal) → first_below f k ≡ Ok tt → k < n → f k ≡ Err x → first_below f n ≡ Err x
unfolding first_below
first_is f zero k x p h q = absurd (not-suc-le-zero h)
first_is f (suc n) k x p h q =
    ⊎_elim
    (λ e. rw (← e) (then_next _ _ p ∙ q))
    (λ l. then_refused _ _ x (first_is f n k x p l q))
    (eq-or-lt_of_le (le_of_suc-le-suc h))

-- a loop that has come to n
pub first_ends : (f : ℕ → Judged) (n k : ℕ) → k ≡ n → first_below f k ≡ Ok tt → Ok tt ≡ first_below f n
first_ends f n k h e = sym (rw h at e)

-- what is no error is good
pub no_error : (r a : Judged) → r ≡ a → is_err r ≡ false → a ≡ Ok tt
no_error (Ok _) a e f = sym e
no_error (Err x) a e f = absurd (let z : ◌≡◌ {A = ℕ} 0 1 = cc in omega arith)

-- ---- what a `?` hands on

pub handed_on : {A : Type 0} {x : Refusal} (r : Result A Refusal) → IsErrAnd r (λ y. y ≡ x) → r ≡ Err x
handed_on r h = let p = err_from_is_err_and r h in rw (p.1, p.2) refl

-- a refusal that stands where the second of two is asked for no more
pub then_handed_on : (a next r : Judged) {x : Refusal} → ◌≡◌ {A = Judged} (Err x) a → IsErrAnd r (λ y. y ≡ x) → r ≡ a and_then next
then_handed_on a next r e h = let p = err_from_is_err_and r h in rw (p.1, p.2) (sym (then_refused a next _ (sym e)))

-- what comes next is the answer, where the first of two is good
pub then_after : (a next r : Judged) → ◌≡◌ {A = Judged} (Ok tt) a → r ≡ next → r ≡ a and_then next
then_after a next r e h = h ∙ sym (then_next a next (sym e))

-- the first refusal of n
pub first_handed_on : (f : ℕ → Judged) (n k : ℕ) (r : Judged) {x : Refusal} → first_below f k ≡ Ok tt → k < n → ◌≡◌ {A = Judged} (Err x) (f k)
    → IsErrAnd r (λ y. y ≡ x) → r ≡ first_below f n
first_handed_on f n k r g l e h = let p = err_from_is_err_and r h in rw (p.1, p.2) (sym (first_is f n k _ g l (sym e)))
