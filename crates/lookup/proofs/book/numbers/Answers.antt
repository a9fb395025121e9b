-- `lookup::book::numbers` meets its contract.
use Rattle.std.proofs.Common.{arith}
use Rattle.std.proofs.lemmas.List.{ext_get_or}
use Rattle.lookup.proofs.book.numbers.Goals as goal

pub returns : goal.returns
returns g c = ext_get_or 0 _ _ c.loop-i.invariant.0 (λ i h. c.loop-i.invariant.1 i (omega arith))
