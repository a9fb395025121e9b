-- `gate::fares_price` meets its contract.
use mathlib.Core.Path.{ap, ◌∙◌}
use Rattle.telling.specs.Word.{written_word}
use Rattle.fitting.proofs.Telling.{price_tellable, written_small}
use Rattle.gate.proofs.fares_price.Goals as goal

pub put-requires : goal.put-requires
put-requires c = rw c.price.ensures (price_tellable _ _).four

pub written-requires : goal.written-requires
written-requires c = rw (c.put.ensures.value, c.price.ensures) (written_small _ _ _ (price_tellable _ _).small)

pub returns : goal.returns
returns c = rw (← c.price.ensures) (record { returned = c.written.ensures ∙ ap written_word c.put.ensures.value; left = c.put.ensures.answer_after })
