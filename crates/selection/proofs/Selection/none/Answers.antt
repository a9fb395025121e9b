-- `selection::Selection::none` meets its contract.
use Rattle.outline.specs.Selections.{total}
use native.Mathlib.Omega.{arith}
use mathlib.Core.Path.{refl}
use Rattle.selection.proofs.Selection.none.Goals as goal

pub returns : goal.returns
unfolding total
returns c = λ earn. record { sound = record { earned = refl; small = omega arith; few = omega arith; two = omega arith }; is = refl }
