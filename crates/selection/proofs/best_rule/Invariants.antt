-- `selection::best_rule` meets its contract.
use Rattle.selection.specs.Chosen.{earn_in}
use Rattle.outline.specs.Choosing.{best_rule}
use mathlib.Core.Path.{◌≡◌}
use Rattle.selection.proofs.best_rule.Given as goal

abbrev pub invariant-loop-k : goal.invariant-loop-k
invariant-loop-k l = l.best ≡ best_rule (earn_in l.part.book.bytes.now l.part.route l.part.first l.part.rides) l.k
