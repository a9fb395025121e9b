-- Two lists compared number by number.
use Prim.Native.Nat.{ℕ}
use mathlib.Core.Path.{◌≡◌}
use mathlib.Core.Bool.{true}
use mathlib.Core.List.{List}
use Rattle.std.specs.Bool.{nat_eq}
use Rattle.std.specs.Cmp.Lexicographic.{pointwise, nat_list_eq_equiv}

-- the same list is found the same
pub same : (xs ys : List ℕ) → ys ≡ xs → pointwise nat_eq ys xs ≡ true
same xs ys e = rw e (nat_list_eq_equiv.refl xs)
