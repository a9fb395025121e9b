-- What is answered, and what then stands in the lent list: refused, without room, or written.
use Prim.Native.Nat.{ℕ, ◌≤◌, ◌<◌}
use Rattle.outline.specs.Refusals.{Judged}
use Rattle.std.proofs.Common.{Ok, Err}
use mathlib.Core.Path.{◌≡◌, refl}
use mathlib.Core.List.{List}
use lib.ListN.{length}
use borrow.Author.Tests.{le-leb, lt-leb}
use Rattle.outline.specs.declared.Refusal.{Refusal}
use Rattle.outline.specs.declared.Refusal.TheVariants.{NoRoom}
use Rattle.outline.specs.Tests.{choose}
use Rattle.outline.specs.Lending.{answered, filled, leaves, Written}

-- r is the answer and after what stands in the lent list
abbrev pub Answers : Judged → List ℕ → List ℕ → Written → List ℕ → Type 0
Answers j result lent r after = (r ≡ answered j result lent) × (after ≡ leaves (answered j result lent) result lent)

pub answers_refused : (j : Judged) (x : Refusal) (result lent : List ℕ) → j ≡ Err x → Answers j result lent (Err x) lent
unfolding answered leaves
answers_refused j x result lent e = rw e (refl, refl)

pub answers_no_room : (j : Judged) (result lent : List ℕ) → j ≡ Ok tt → length lent < length result → Answers j result lent (Err NoRoom) lent
unfolding answered leaves choose
answers_no_room j result lent e h = rw (e, lt-leb _ _ h) (refl, refl)

pub answers_wrote : (j : Judged) (result lent : List ℕ) → j ≡ Ok tt → length result ≤ length lent → Answers j result lent (Ok (length result)) (filled result lent)
unfolding answered leaves choose
answers_wrote j result lent e h = rw (e, le-leb _ _ h) (refl, refl)
