-- `gate::fares_read` meets its contract.
use mathlib.Core.Path.{ap, ◌∙◌}
use Rattle.outline.specs.Lending.{read_answer}
use Rattle.telling.specs.Word.{written_word}
use Rattle.fitting.proofs.Places.{book_places}
use Rattle.fitting.proofs.Telling.{written_small}
use Rattle.gate.proofs.fares_read.Goals as goal

pub written-requires : goal.written-requires
unfolding read_answer
written-requires c = rw c.read.ensures.value (written_small _ _ _ (book_places _))

pub returns-clause-value : goal.returns-clause-value
returns-clause-value c = c.written.ensures ∙ ap written_word c.read.ensures.value

pub returns-clause-sheet_after : goal.returns-clause-sheet_after
returns-clause-sheet_after c = c.read.ensures.sheet_after
