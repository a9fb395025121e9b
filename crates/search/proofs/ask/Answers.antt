-- `search::ask` meets its contract.
use mathlib.Core.Path.{sym, ap, subst}
use mathlib.Core.Logic.{inl, inr}
use native.Mathlib.Omega.{arith}
use Prim.Native.Nat.{ℕ}
use lib.ListN.{length}
use Rattle.outline.specs.Numbers.{most_rides}
use Rattle.outline.specs.Tests.{Within}
use Rattle.outline.specs.Book.{network}
use Rattle.routes.specs.Held.{rides_of}
use Rattle.cheapest.proofs.Twin.{limit_within}
use Rattle.best.proofs.Improving.{held_here}
use Rattle.search.proofs.Stepping.{begin, cheapest_found, none_found}
use Rattle.search.proofs.ask.Goals as goal

pub by_rides-best-requires : goal.by_rides-best-requires
by_rides-best-requires c =
    let empty = c.empty.ensures in
    let limit = subst (λ (n : ℕ). Within 1 n most_rides) (sym c.from.ensures) (limit_within (network c.args.good.book.bytes.now) c.args.question c.requires) in
    (begin _ _ _ _ (empty.0 (network c.args.good.book.bytes.now)) empty.1 limit c.none.ensures, λ some. absurd (omega (arith, some, ap length empty.1)))

pub answer-requires : goal.answer-requires
answer-requires c = (held_here _ _ _ c.in-Some.is c.by_rides-best.ensures.sound).held

pub returns-in-Some : goal.returns-in-Some
returns-in-Some c =
    inl (record {
      route = rides_of c.in-Some.cheapest.route;
      cheapest = cheapest_found _ _ _ _ _ _ c.empty.ensures.1 c.from.ensures c.by_rides-best.ensures _ c.none.ensures c.in-Some.is (limit_within _ _ c.requires).to;
      is = c.answer.ensures;
    })

pub returns-in-None : goal.returns-in-None
returns-in-None c =
    inr (record {
      none = none_found _ _ _ _ _ _ c.empty.ensures.1 c.from.ensures c.by_rides-best.ensures c.in-None.is;
      is = c.refused.ensures;
    })
