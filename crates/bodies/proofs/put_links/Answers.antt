-- `bodies::put_links` meets its contract.
use native.Mathlib.Omega.{arith}
use Prim.Native.Nat.{ℕ, ◌+◌, ◌*◌}
use Rattle.outline.specs.Sheet.{link_in}
use Rattle.outline.specs.Writing.{link_bytes}
use Rattle.filling.proofs.InOrder.{order_turn_sized}
use Rattle.filling.proofs.Sizes.{link_bytes_length}
use Rattle.bodies.proofs.put_links.Goals as goal

pub loop-k-preserved : goal.loop-k-preserved
loop-k-preserved c =
    let link = λ (j : ℕ). link_in c.args.sheet.now (c.args.first + 4 * j) in
    order_turn_sized (λ (j : ℕ). link_bytes (link j)) 4 c.args.n c.loop-k.k c.args.book.now _ _ _ (λ j l. link_bytes_length (link j))
    c.loop-k-test.true (omega (arith, c.requires.n_bound)) c.loop-k.invariant (omega arith) (rw c.links_numbers.ensures.0 at c.put_link.ensures)
