-- `matching::part::Part::earns` meets its contract.
use mathlib.Core.Path.{◌∙◌}
use Rattle.matching.proofs.Runs.{ok_saves}
use Rattle.outline.specs.Matching.{earns}
use Rattle.matching.proofs.part.Part.earns.Goals as goal

pub returns : goal.returns
unfolding earns
returns c = rw c.judge.ensures at c.ok.ensures.value ∙ ok_saves _
