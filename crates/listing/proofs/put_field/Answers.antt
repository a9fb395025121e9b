-- `listing::put_field` meets its contract.
use native.Mathlib.Omega.{arith}
use Rattle.outline.specs.Lister.{field}
use Rattle.listing.proofs.Putting.{put_then, decimal_short}
use Rattle.listing.proofs.put_field.Goals as goal

pub put_decimal-end-requires : goal.put_decimal-end-requires
put_decimal-end-requires c = omega (arith, decimal_short _ c.requires.1)

pub put_byte-requires : goal.put_byte-requires
put_byte-requires c = omega (arith, decimal_short _ c.requires.1, c.put_decimal-end.ensures.ends)

pub returns : goal.returns
unfolding field
returns c =
    let short = decimal_short _ c.requires.1 in
    let p = c.put_decimal-end.ensures in
    let q = c.put_byte.ensures in
    (put_then p q (omega arith), omega (arith, p.ends, q.ends))
