-- `matching::part::Part::same_companies` meets its contract.
use borrow.Author.Rules.{rules}
use borrow.Author.Tests.{tests}
use mathlib.Core.Path.{◌∙◌}
use lib.Dec.{eqb}
use Rattle.std.proofs.lemmas.Iterator.{YieldsList-from_slice, YieldsList-from_zip}
use Rattle.std.proofs.lemmas.Iterator.Search.{all_from_yields_List}
use Rattle.outline.specs.Book.{network}
use Rattle.matching.specs.Runs.{run_in}
use Rattle.matching.proofs.Runs.{run_cut, companies_is}
use Rattle.matching.proofs.part.Part.same_companies.Goals as goal

pub returns : goal.returns
returns c =
    let s = c.args in
    let cut = run_cut s.self.route s.self.held.sized s.self.first s.self.rides s.self.inside.ends in
    all_from_yields_List (λ p. eqb p.0.company p.1) c.all.new.self _ c.all.result c.all.ensures.ran
    (YieldsList-from_zip (YieldsList-from_slice (run_in s.self.route s.self.first s.self.rides) cc) (YieldsList-from_slice ((network s.self.book.bytes.now).rule s.k).companies cc))
    (λ x b q k. search (rules, tests))
    ∙ companies_is c.args.self _ c.requires
