-- What the test of a rule's maps asks of the rule.
use Rattle.std.specs.Prelude.{◌-◌, ◌<◌}
use Rattle.outline.specs.Numbers.{least_run, most_run}
use Rattle.outline.specs.Tests.{Within}
use Rattle.outline.specs.declared.Rule.{Rule}
use Rattle.outline.specs.Fares.{company_at}
use Rattle.outline.specs.Network.{Network}

-- a rule's rides are two to four, and its first and last company exist
pub record GoodCompanies (N : Network) (r : Rule) : Type 0 where
  pub rides : Within least_run r.rides most_run
  pub first : company_at r 0 < N.companies
  pub last : company_at r (r.rides - 1) < N.companies
