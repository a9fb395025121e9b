-- `listing::put_place` meets its contract.
use native.Mathlib.Omega.{arith}
use Rattle.outline.specs.Lister.{field}
use Rattle.listing.proofs.Putting.{put_then, decimal_most}
use Rattle.listing.proofs.put_place.Goals as goal

pub put_decimal-end-requires : goal.put_decimal-end-requires
put_decimal-end-requires c = omega (arith, decimal_most _ c.ranges.x.fits)

pub put_byte-requires : goal.put_byte-requires
put_byte-requires c = omega (arith, decimal_most _ c.ranges.x.fits, c.put_decimal-end.ensures.ends)

pub returns : goal.returns
unfolding field
returns c =
    let short = decimal_most _ c.ranges.x.fits in
    let p = c.put_decimal-end.ensures in
    let q = c.put_byte.ensures in
    (put_then p q (omega arith), omega (arith, p.ends, q.ends))
