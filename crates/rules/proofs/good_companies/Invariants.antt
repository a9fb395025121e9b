-- `rules::good_companies` meets its contract.
use Rattle.std.proofs.Common.{◌≡◌, true}
use Rattle.outline.specs.Tests.{all_below}
use Rattle.outline.specs.Judging.{good_company}
use Rattle.rules.proofs.good_companies.Given as goal

abbrev pub invariant-loop-i : goal.invariant-loop-i
invariant-loop-i l = all_below (good_company l.known l.rides l.companies) l.i ≡ true
