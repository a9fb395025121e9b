-- `listing::put_decimal` meets its contract: the number falls.
use Prim.Native.Nat.{ℕ, ◌/◌, ◌<◌}
use mathlib.Core.Path.{◌≡◌, sym, ap, ◌∙◌}
use mathlib.Core.List.{[], ◌∷◌, ◌++◌}
use native.Mathlib.Omega.{arith}
use lib.ListN.{length}
use Rattle.outline.specs.Lister.{decimal}
use Rattle.listing.proofs.Putting.{put_length, put_same, put_then, decimal_one, decimal_more, decimal_more_length}
use Rattle.listing.proofs.+put_decimal.Goals as goal

pub character-requires : goal.character-requires
character-requires t c = c.if-x-lt10.true

pub put_byte-requires : goal.put_byte-requires
put_byte-requires t c =
    omega (arith, c.requires, ap length (decimal_one c.args.x c.if-x-lt10.true))

pub shape_of-out-then-x-lt10 : goal.shape_of-out-then-x-lt10
shape_of-out-then-x-lt10 t c =
    put_length c.put_byte.ensures (omega (arith, c.requires, ap length (decimal_one c.args.x c.if-x-lt10.true)))

pub returns-then-x-lt10 : goal.returns-then-x-lt10
returns-then-x-lt10 t c =
    put_same (ap (λ (d : ℕ). d ∷ []) c.character.ensures ∙ sym (decimal_one c.args.x c.if-x-lt10.true)) c.put_byte.ensures

pub put_decimal-last-requires : goal.put_decimal-last-requires
put_decimal-last-requires t c =
    let big = c.if-x-lt10.false in
    let e : c.args.x ≡ t = c.decreases in
    let f : c.args.x / 10 < t = omega arith in
    (f, omega (arith, c.requires, decimal_more_length c.args.x big))

pub character-requires-2 : goal.character-requires-2
character-requires-2 t c = omega arith

pub put_byte-requires-2 : goal.put_byte-requires-2
put_byte-requires-2 t c =
    let more = decimal_more_length c.args.x c.if-x-lt10.false in
    let first = c.put_decimal-last.ensures in
    omega (arith, c.requires, first.ends, put_length first (omega (arith, c.requires)))

pub shape_of-out : goal.shape_of-out
shape_of-out t c =
    let more = decimal_more_length c.args.x c.if-x-lt10.false in
    let first = c.put_decimal-last.ensures in
    let same = put_length first (omega (arith, c.requires)) in
    put_length c.put_byte-2.ensures (omega (arith, c.requires, first.ends)) ∙ same

pub returns : goal.returns
returns t c =
    let big = c.if-x-lt10.false in
    let more = decimal_more_length c.args.x big in
    put_same (ap (λ (d : ℕ). decimal (c.args.x / 10) ++ (d ∷ [])) c.character-2.ensures ∙ sym (decimal_more c.args.x big))
    (put_then c.put_decimal-last.ensures c.put_byte-2.ensures (omega (arith, c.requires)))
