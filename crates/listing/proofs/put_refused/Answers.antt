-- `listing::put_refused` meets its contract.
use native.Mathlib.Omega.{arith}
use Rattle.outline.specs.Lister.{refused_line}
use Rattle.listing.proofs.Putting.{put_length, put_joined}
use Rattle.listing.proofs.put_refused.Goals as goal

pub returns : goal.returns
unfolding refused_line
returns c =
    let word = c.put_bytes-number.ensures in
    let number = rw (c.from.ensures, c.number.ensures) at c.put_field-place.ensures in
    let place = rw c.place.ensures at c.put_place.ensures in
    put_joined 8 27 (word, omega (arith, word.ends)) (put_joined 6 21 number place (omega (arith, c.requires, word.ends, put_length word (omega (arith, c.requires))))) c.requires
