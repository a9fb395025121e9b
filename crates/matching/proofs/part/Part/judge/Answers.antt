-- `matching::part::Part::judge` meets its contract.
use Rattle.matching.proofs.Runs.{run_length}
use Rattle.outline.specs.Matching.{unless, reason_of}
use borrow.Author.Tests.{eq-eqb, ne_eqb}
use mathlib.Core.Path.{sym, ◌∙◌}
use Rattle.matching.proofs.part.Part.judge.Goals as goal

pub returns-then-from-self : goal.returns-then-from-self
unfolding unless reason_of
returns-then-from-self c =
    let p = c.args.self in
    let other = rw (c.from.ensures, c.rule_rides.ensures) at (ne_eqb _ _ c.if-from-self.true) in
    rw (run_length _ p.held.sized _ _ p.inside.ends, other)

pub returns-then-not-same_companies : goal.returns-then-not-same_companies
unfolding unless reason_of
returns-then-not-same_companies c =
    let p = c.args.self in
    let same = rw (c.from.ensures, c.rule_rides.ensures) at (eq-eqb _ _ c.if-from-self.false) in
    rw (run_length _ p.held.sized _ _ p.inside.ends, same, sym c.same_companies.ensures ∙ c.if-not-same_companies.true)

pub returns : goal.returns
unfolding unless reason_of
returns c =
    let p = c.args.self in
    let same = sym c.rule_rides.ensures ∙ sym c.from.ensures ∙ c.if-from-self.false ∙ sym (run_length _ p.held.sized _ _ p.inside.ends) in
    rw (eq-eqb _ _ same, sym c.same_companies.ensures ∙ c.if-not-same_companies.false) c.judge_ends.ensures
