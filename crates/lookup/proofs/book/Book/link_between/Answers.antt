-- `lookup::book::Book::link_between` meets its contract.
use borrow.Author.Rules.{rules}
use mathlib.Core.Path.{◌≡◌, refl, sym, ◌∙◌}
use native.Mathlib.Omega.{arith}
use Rattle.laws.proofs.Joining.{joined_more, joined_is}
use Rattle.outline.specs.Book.{network}
use Rattle.outline.specs.Network.{joined_below, link_between}
use Rattle.lookup.proofs.book.Book.link_between.Goals as goal

pub loop-k-init : goal.loop-k-init
unfolding joined_below
loop-k-init c = refl

pub returns-then-joined_by : goal.returns-then-joined_by
unfolding link_between
returns-then-joined_by c = sym (joined_is _ _ _ _ _ c.loop-k.invariant (search rules) (rw c.link.ensures at (sym c.joined_by.ensures ∙ c.if-joined_by.true)))

pub loop-k-preserved : goal.loop-k-preserved
loop-k-preserved c = joined_more _ _ _ _ c.loop-k.invariant (rw c.link.ensures at (sym c.joined_by.ensures ∙ c.if-joined_by.false))

pub returns : goal.returns
unfolding link_between
returns c =
    let e : c.loop-k.k ≡ (network c.args.self.bytes.now).links = omega (arith, c.links-k-end.ensures) in
    sym (rw e at c.loop-k.invariant)
