-- `bodies::put_rules` meets its contract.
use native.Mathlib.Omega.{arith}
use Prim.Native.Nat.{ℕ, ◌+◌, ◌*◌}
use Rattle.outline.specs.Sheet.{rule_in}
use Rattle.outline.specs.Writing.{rule_bytes}
use Rattle.laws.proofs.Sheet.{rule_sized_in}
use Rattle.filling.proofs.InOrder.{order_turn_sized}
use Rattle.filling.proofs.Sizes.{rule_bytes_length}
use Rattle.bodies.proofs.put_rules.Goals as goal

pub put_rule-requires-clause-rule_bytes : goal.put_rule-requires-clause-rule_bytes
put_rule-requires-clause-rule_bytes c = rw c.rules_numbers.ensures.0 (c.requires.by_index _ c.loop-k-test.true)

pub loop-k-preserved : goal.loop-k-preserved
loop-k-preserved c =
    let at = λ (j : ℕ). c.args.first + 32 * j in
    let rule = λ (j : ℕ). rule_in c.args.sheet.now (at j) in
    order_turn_sized (λ (j : ℕ). rule_bytes (rule j)) 33 c.args.n c.loop-k.k c.args.book.now _ _ _
    (λ j l. rule_bytes_length (rule j) (rule_sized_in c.args.sheet.now (at j) (omega (arith, c.requires.n_bound.1))))
    c.loop-k-test.true (omega (arith, c.requires.n_bound)) c.loop-k.invariant (omega arith) (rw c.rules_numbers.ensures.0 at c.put_rule.ensures)
