-- `routes::Route::repeats` meets its contract.
use borrow.Author.Rules.{rules}
use borrow.Author.Tests.{tests}
use mathlib.Core.Path.{◌∙◌}
use Rattle.std.proofs.lemmas.Iterator.{YieldsList-from_slice}
use Rattle.std.proofs.lemmas.Iterator.Search.{any_from_yields_List}
use Rattle.outline.specs.Routes.{no_ride, meets, repeats}
use Rattle.routes.specs.Held.{rides_of}
use Rattle.laws.proofs.Chains.{any_is}
use Rattle.routes.proofs.Route.repeats.Goals as goal

pub returns : goal.returns
unfolding repeats
returns c =
    any_from_yields_List (λ e. meets e c.args.l) _ _ c.any.result c.any.ensures.ran (YieldsList-from_slice (rides_of c.args.self) cc) (λ x b q k. search (rules, tests))
    ∙ any_is (λ e. meets e c.args.l) no_ride (rides_of c.args.self)
