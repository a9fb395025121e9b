-- `gate::fares_write` meets its contract.
use mathlib.Core.Path.{ap, ◌∙◌}
use Rattle.outline.specs.Lending.{write_answer}
use Rattle.telling.specs.Word.{written_word}
use Rattle.fitting.proofs.Places.{sheet_places}
use Rattle.fitting.proofs.Telling.{written_small}
use Rattle.gate.proofs.fares_write.Goals as goal

pub written-requires : goal.written-requires
unfolding write_answer
written-requires c = rw c.write.ensures.value (written_small _ _ _ (sheet_places _))

pub returns-clause-value : goal.returns-clause-value
returns-clause-value c = c.written.ensures ∙ ap written_word c.write.ensures.value

pub returns-clause-book_after : goal.returns-clause-book_after
returns-clause-book_after c = c.write.ensures.book_after
