-- `listing::put_to` meets its contract.
use Prim.Native.Nat.{◌*◌}
use mathlib.Core.Path.{◌≡◌, sym, ap}
use native.Mathlib.Omega.{arith}
use Rattle.outline.specs.Book.{network}
use Rattle.outline.specs.Tests.{in_order}
use Rattle.laws.proofs.Reading.{stations_few}
use Rattle.filling.proofs.InOrder.{order_more}
use Rattle.listing.specs.Lines.{lines_to}
use Rattle.listing.proofs.Putting.{put_nothing, put_same, put_joined}
use Rattle.listing.proofs.put_to.Invariants.{nth}
use Rattle.listing.proofs.put_to.Goals as goal

pub loop-number-init : goal.loop-number-init
unfolding in_order
loop-number-init c = (put_nothing _ _, omega arith)

pub put_pair-end-requires : goal.put_pair-end-requires
put_pair-end-requires c =
    let few = stations_few _ c.args.good.book.laid_out _ c.requires.1 in
    (c.requires.0, record { company = c.requires.1; number = rw c.stations-n.ensures at c.loop-number-test.true }, omega (arith, c.stations-n.ensures, c.loop-number.invariant.1, c.loop-number-test.true, c.requires.2))

pub loop-number-preserved : goal.loop-number-preserved
loop-number-preserved c =
    let few = stations_few _ c.args.good.book.laid_out _ c.requires.1 in
    let f = nth (network c.args.good.book.bytes.now) c.args.x c.args.company in
    let more = put_joined (36 * c.loop-number.number) 36 c.loop-number.invariant c.put_pair-end.ensures (omega (arith, c.stations-n.ensures, c.loop-number-test.true, c.requires.2)) in
    (put_same (sym (order_more f c.loop-number.number)) more.0, omega (arith, more.1))

pub returns : goal.returns
unfolding lines_to
returns c =
    let few = stations_few _ c.args.good.book.laid_out _ c.requires.1 in
    let all : c.loop-number.number ≡ (network c.args.good.book.bytes.now).stations c.args.company = omega (arith, c.loop-number-test.false, c.stations-n.ensures) in
    (put_same (ap (in_order (nth (network c.args.good.book.bytes.now) c.args.x c.args.company)) all) c.loop-number.invariant.0, omega (arith, c.loop-number.invariant.1))
