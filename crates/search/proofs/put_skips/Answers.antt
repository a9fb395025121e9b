-- `search::put_skips` meets its contract.
use Prim.Native.Nat.{◌+◌, ◌-◌, ◌<◌}
use mathlib.Core.Path.{◌≡◌, refl, ap, ◌∙◌}
use native.Mathlib.Omega.{arith}
use lib.ListN.{length-set}
use Rattle.outline.specs.declared.Link.{Link}
use Rattle.outline.specs.Tests.{choose}
use Rattle.outline.specs.Book.{network}
use Rattle.laws.proofs.Reading.{link_fits, link_read, links_few}
use Rattle.search.specs.Steps.{touches, Skip}
use Rattle.search.proofs.Stepping.{skip_more, skips_set}
use Rattle.search.proofs.put_skips.Goals as goal

pub bounds-skips-from : goal.bounds-skips-from
bounds-skips-from c =
    omega (arith, c.from.ensures, c.links-n.ensures, links_few _ c.args.book.laid_out, c.requires)

pub loop-k-init : goal.loop-k-init
loop-k-init c =
    let a = c.args in
    let n = c.links-n.result in
    let e = c.links-n.ensures in
    let here : Skip (network a.book.bytes.now) a.company n n = record { later = omega arith; few = omega (arith, e); passed = λ j h l. absurd (omega arith) } in (
      e,
      c.links_body-body.ensures,
      omega arith,
      refl,
      here,
      rw c.from.ensures (skips_set _ _ n a.skips.now n n (rw c.from.ensures at (bounds-skips-from c)) (λ j h l. absurd (omega arith)) here),
    )

pub link-requires : goal.link-requires
link-requires c =
    let i = c.loop-k.invariant in
    rw i.1 (link_fits _ c.args.book.laid_out _ (omega (arith, i.0, i.2, c.loop-k-test.true)))

pub bounds-skips-from-in-loop-k : goal.bounds-skips-from-in-loop-k
bounds-skips-from-in-loop-k c =
    let i = c.loop-k.invariant in
    let a = c.args in
    omega (arith, c.from-in-loop-k.ensures, i.0, i.2, i.3, length-set a.skips.now c.from.result c.links-n.result, links_few _ c.args.book.laid_out, c.requires)

pub loop-k-preserved : goal.loop-k-preserved
loop-k-preserved c =
    let l = c.loop-k in
    let i = l.invariant in
    let a = c.args in
    let t = c.loop-k-test.true in
    let known : l.k - 1 < (network a.book.bytes.now).links = omega (arith, i.0, i.2) in
    let one : l.k - 1 + 1 ≡ l.k = omega arith in
    let read = c.link.ensures ∙ link_read _ _ _ i.1 known in
    let new = skip_more (network a.book.bytes.now) a.company (l.k - 1) l.next c.this_or-next.result known (rw one i.4)
    (c.this_or-next.ensures ∙ ap (λ (m : Link). choose (touches m a.company) (l.k - 1) l.next) read) in (
      i.0,
      i.1,
      omega (arith, i.2),
      length-set l.skips c.from-in-loop-k.result c.this_or-next.result ∙ i.3,
      new,
      rw c.from-in-loop-k.ensures (skips_set _ _ _ l.skips (l.k - 1) c.this_or-next.result (rw c.from-in-loop-k.ensures at (bounds-skips-from-in-loop-k c)) (rw one i.5) new),
    )

pub shape_of-skips : goal.shape_of-skips
shape_of-skips c = c.loop-k.invariant.3 ∙ length-set c.args.skips.now c.from.result c.links-n.result

pub returns : goal.returns
returns c =
    let i = c.loop-k.invariant in
    record {
      long = omega (arith, i.3, length-set c.args.skips.now c.from.result c.links-n.result, links_few _ c.args.book.laid_out, c.requires);
      next = λ j l. i.5 j (omega (arith, c.loop-k-test.false)) (omega (arith, l, i.0));
    }
