-- Laws of the link between two stations.
use Prim.Native.Nat.{ℕ, zero, suc, ◌+◌, ◌<◌}
use mathlib.Core.Path.{◌≡◌}
use mathlib.Core.Bool.{true, false}
use mathlib.Core.Logic.{⊎_elim}
use native.Mathlib.Nat.{not-suc-le-zero, le_of_suc-le-suc, eq-or-lt_of_le}
use native.Mathlib.Numerals.{add-one}
use Rattle.outline.specs.declared.Station.{Station}
use Rattle.std.specs.Prelude.{Some, None}
use Rattle.outline.specs.Tests.{choose}
use Rattle.outline.specs.Network.{Network, joins, or_else, joined_below}

module _ (N : Network) (x y : Station) where
  -- one turn of a loop: no link before k joins them, and neither does k
  pub joined_more : (k : ℕ) → joined_below N x y k ≡ None → joins (N.link k) x y ≡ false → joined_below N x y (k + 1) ≡ None
  unfolding joined_below or_else choose
  joined_more k p q = rw (add-one, p, q)

  -- link k is the first of n where none before it joins them, and it does
  pub joined_is : (n k : ℕ) → joined_below N x y k ≡ None → k < n → joins (N.link k) x y ≡ true → joined_below N x y n ≡ Some k
  unfolding joined_below or_else choose
  joined_is zero k p h q = absurd (not-suc-le-zero h)
  joined_is (suc n) k p h q =
      ⊎_elim
      (λ e. rw (← e, p, q))
      (λ l. rw (joined_is n k p l q))
      (eq-or-lt_of_le (le_of_suc-le-suc h))
