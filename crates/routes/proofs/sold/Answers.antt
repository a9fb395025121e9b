-- `routes::sold` meets its contract.
use Rattle.routes.proofs.Rides.{sold_here}
use Rattle.outline.specs.Routes.{exists}
use Rattle.outline.specs.Tests.{both, choose}
use borrow.Author.Tests.{le-ltb, lt-ltb, eq-eqb, ne_eqb}
use Rattle.routes.proofs.sold.Goals as goal
use Rattle.routes.proofs.sold.Goals.{then-n-l-via-then-n-l, then-n-l-via-else-n-l+then-n-l-2, then-n-l-via-else-n-l+else-n-l-2+then-l}

pub returns-then-companies-l : goal.returns-then-companies-l
unfolding exists both choose
returns-then-companies-l c = rw (← c.companies.ensures, le-ltb _ _ c.if-companies-l.true)

pub returns-then-n-l : goal.returns-then-n-l
unfolding exists both choose
returns-then-n-l c =
    elim c.then-n-l.branch [
      | then-n-l-via-then-n-l w ↦ rw (← c.companies.ensures, lt-ltb _ _ c.if-companies-l.false, ← c.stations-n.ensures, le-ltb _ _ w.if-n-l.true)
      | then-n-l-via-else-n-l+then-n-l-2 w ↦
          rw (← c.companies.ensures, lt-ltb _ _ c.if-companies-l.false, ← c.stations-n.ensures, lt-ltb _ _ w.if-n-l.false, le-ltb _ _ w.if-n-l-2.true)
      | then-n-l-via-else-n-l+else-n-l-2+then-l w ↦
          rw (← c.companies.ensures, lt-ltb _ _ c.if-companies-l.false, ← c.stations-n.ensures, lt-ltb _ _ w.if-n-l.false, lt-ltb _ _ w.if-n-l-2.false, eq-eqb _ _ w.if-l.true)
    ]

pub returns : goal.returns
unfolding exists both choose
returns c = rw (← c.companies.ensures, lt-ltb _ _ c.if-companies-l.false, ← c.stations-n.ensures, lt-ltb _ _ c.if-n-l.false, lt-ltb _ _ c.if-n-l-2.false, ne_eqb _ _ c.if-l.false, ← c.entry.ensures) (sold_here _)
