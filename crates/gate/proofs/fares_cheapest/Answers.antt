-- `gate::fares_cheapest` meets its contract.
use mathlib.Core.Path.{ap, ◌∙◌}
use Rattle.telling.specs.Word.{written_word}
use Rattle.fitting.proofs.Telling.{asked_tellable, written_small}
use Rattle.gate.proofs.fares_cheapest.Goals as goal

pub put-requires : goal.put-requires
put-requires c = (asked_tellable _ _ _ c.cheapest.ensures).four

pub written-requires : goal.written-requires
written-requires c = rw c.put.ensures.value (written_small _ _ _ (asked_tellable _ _ _ c.cheapest.ensures).small)

pub returns : goal.returns
returns c = record {
  answer = c.cheapest.result;
  asked = c.cheapest.ensures;
  tells = record { returned = c.written.ensures ∙ ap written_word c.put.ensures.value; left = c.put.ensures.answer_after };
}
