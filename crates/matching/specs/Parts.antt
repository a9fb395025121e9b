-- The rides of a part.
use Rattle.std.specs.Prelude.{List}
use Rattle.outline.specs.declared.Leg.{Leg}
use Rattle.matching.specs.declared.part.Part.{Part}
use Rattle.matching.specs.Runs.{run_in}

abbrev pub rides_in : Part → List Leg
rides_in p = run_in p.route p.first p.rides
