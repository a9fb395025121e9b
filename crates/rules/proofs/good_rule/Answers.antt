-- `rules::good_rule` meets its contract.
use Rattle.std.proofs.Common.{rules, sym, ◌∙◌}
use Rattle.laws.proofs.Tests.{within_of, within_true}
use Rattle.laws.proofs.Judging.{first_company, last_company}
use Rattle.outline.specs.Network.{network_of}
use Rattle.outline.specs.Numbers.{least_run, most_run}
use Rattle.rules.proofs.good_rule.Goals as goal

pub good_maps-requires : goal.good_maps-requires
unfolding network_of
good_maps-requires g c =
    let N = network_of (g.S.Source.fares c.args.source) in
    let w = within_of least_run c.args.rule.rides most_run (search rules) (search rules) in
    let each = rw c.companies.ensures at (sym c.good_companies.ensures ∙ c.if-not-good_companies.false) in
    record { rides = within_true _ _ _ w; first = first_company N c.args.rule w each; last = last_company N c.args.rule w each }
