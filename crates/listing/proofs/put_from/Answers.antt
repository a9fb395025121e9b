-- `listing::put_from` meets its contract.
use Prim.Native.Nat.{◌*◌}
use mathlib.Core.Path.{◌≡◌, sym, ap, ◌∙◌}
use native.Mathlib.Omega.{arith}
use Rattle.outline.specs.Book.{network}
use Rattle.outline.specs.Tests.{in_order}
use Rattle.laws.proofs.Reading.{companies_few}
use Rattle.filling.proofs.InOrder.{order_more}
use Rattle.pairing.proofs.Lines.{from_as_put}
use Rattle.listing.specs.Lines.{line_to, lines_to}
use Rattle.listing.proofs.Putting.{put_nothing, put_same, put_joined}
use Rattle.listing.proofs.put_from.Goals as goal

pub loop-company-init : goal.loop-company-init
unfolding in_order
loop-company-init c = (put_nothing _ _, omega arith)

pub put_to-end-requires : goal.put_to-end-requires
put_to-end-requires c =
    let few = companies_few _ c.args.good.book.laid_out in
    (c.requires.0, rw c.companies-n.ensures at c.loop-company-test.true, omega (arith, c.companies-n.ensures, c.loop-company.invariant.1, c.loop-company-test.true, c.requires.1))

pub loop-company-preserved : goal.loop-company-preserved
loop-company-preserved c =
    let few = companies_few _ c.args.good.book.laid_out in
    let f = lines_to (network c.args.good.book.bytes.now) c.args.x in
    let more = put_joined (1440 * c.loop-company.company) 1440 (c.loop-company.invariant.0, omega (arith, c.loop-company.invariant.1)) c.put_to-end.ensures (omega (arith, c.companies-n.ensures, c.loop-company-test.true, c.requires.1)) in
    (put_same (sym (order_more f c.loop-company.company)) more.0, omega (arith, more.1))

pub returns : goal.returns
unfolding line_to lines_to
returns c =
    let few = companies_few _ c.args.good.book.laid_out in
    let all : c.loop-company.company ≡ (network c.args.good.book.bytes.now).companies = omega (arith, c.loop-company-test.false, c.companies-n.ensures) in
    (put_same (ap (in_order (lines_to (network c.args.good.book.bytes.now) c.args.x)) all ∙ sym (from_as_put (network c.args.good.book.bytes.now) c.args.x)) c.loop-company.invariant.0, omega (arith, c.loop-company.invariant.1))
