-- `best::Best::better` meets its contract.
use Rattle.outline.specs.Book.{network}
use Rattle.best.proofs.Improving.{held_here, held_stays, offer_taken, by_fare, by_rides}
use native.Mathlib.Omega.{arith}
use Rattle.best.proofs.Best.better.Goals as goal
use Rattle.best.proofs.Best.better.Goals.{else-held-fare-via-then-held-fare+else-no_longer, else-held-fare-via-else-held-fare}

pub no_longer-requires : goal.no_longer-requires
no_longer-requires c = ((held_here _ _ _ c.in-Some.is c.requires.sound).held.sized, c.requires.held.0.sized)

pub returns-then-no_longer : goal.returns-then-no_longer
returns-then-no_longer c =
    let N = network c.args.good.book.bytes.now in
    let h = held_here N _ _ c.in-Some.is c.requires.sound in
    held_stays N c.args.self _ c.args.route c.requires.sound c.in-Some.is (by_rides N _ _ _ _ h.fare c.fare-fare.ensures (omega arith) (c.no_longer.ensures.yes c.if-no_longer.true))

pub returns-else-held-fare : goal.returns-else-held-fare
returns-else-held-fare c =
    let N = network c.args.good.book.bytes.now in
    let h = held_here N _ _ c.in-Some.is c.requires.sound in
    let paid = c.fare-fare.ensures in
    offer_taken N c.args.self _ c.args.route c.requires.held.0 c.requires.held.1 paid (rw c.in-Some.is (elim c.else-held-fare.branch [
      | else-held-fare-via-then-held-fare+else-no_longer w ↦ by_rides N _ _ _ _ paid h.fare (omega arith) (w.no_longer.ensures.no w.if-no_longer.false)
      | else-held-fare-via-else-held-fare w ↦ by_fare N _ _ _ _ paid h.fare (omega arith)
    ]))

pub returns-in_default : goal.returns-in_default
returns-in_default c = offer_taken _ c.args.self _ c.args.route c.requires.held.0 c.requires.held.1 c.fare-fare.ensures (rw c.in_default.is tt)
