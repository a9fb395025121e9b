-- `numbers::put_fares` meets its contract.
use native.Mathlib.Omega.{arith}
use mathlib.Core.Path.{ap, ◌∙◌}
use Prim.Native.Nat.{ℕ, ◌*◌}
use Rattle.laws.proofs.Reading.{fares_length}
use Rattle.filling.proofs.Filled.{filled_end}
use Rattle.numbers.proofs.put_fares.Goals as goal

pub returns : goal.returns
returns c =
    let entries = c.entries-n.ensures ∙ ap (λ (n : ℕ). n * n) c.stations.ensures in
    filled_end _ _ _ _ c.loop-i.invariant (omega (arith, entries, c.loop-i-test.false, fares_length c.args.body.bytes.now c.args.body.sized.long))
