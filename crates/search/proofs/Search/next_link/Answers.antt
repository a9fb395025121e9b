-- `search::Search::next_link` meets its contract.
use native.Mathlib.Omega.{arith}
use mathlib.Core.Path.{◌≡◌, sym, ◌∙◌}
use mathlib.Core.Bool.{Bool, false}
use Prim.Native.Nat.{ℕ}
use Rattle.outline.specs.declared.Station.{Station}
use Rattle.outline.specs.declared.Link.{Link}
use Rattle.outline.specs.Book.{network}
use Rattle.laws.proofs.Reading.{link_fits, link_read}
use Rattle.search.specs.Steps.{leads_on}
use Rattle.search.proofs.Stepping.{passed_more, passed_then, skip_later}
use Rattle.search.proofs.Search.next_link.Goals as goal

-- the test of a link that was read is the test of the book's link
tested : {l m : Link} (company : ℕ) (goal : Station) (left : ℕ) {t : Bool} → l ≡ m → t ≡ leads_on l company goal left → leads_on m company goal left ≡ t
tested company goal left e h = rw e at (sym h)

pub skipped-k-requires : goal.skipped-k-requires
skipped-k-requires c = omega (arith, c.requires, c.args.self.now.skipping.long)

pub loop-k-init : goal.loop-k-init
loop-k-init c =
    let e = c.links-n.ensures in
    let next = skip_later _ c.args.self.now.goal _ c.args.self.now.skipping c.args.left c.args.from c.skipped-k.result c.requires c.skipped-k.ensures in
    (e, c.links_body-body.ensures, next.0, omega (arith, next.1), next.2 c.args.company)

pub link-requires : goal.link-requires
link-requires c =
    let i = c.loop-k.invariant in
    rw i.1 (link_fits _ c.args.self.now.good.book.laid_out _ (rw i.0 at c.loop-k-test.true))

pub returns-then-leads_on : goal.returns-then-leads_on
returns-then-leads_on c =
    let i = c.loop-k.invariant in
    let known = rw i.0 at c.loop-k-test.true in
    let a = c.args in
    record { later = i.2; known = known; passed = i.4; leads = tested a.company a.self.now.goal a.left (c.link.ensures ∙ link_read _ _ _ i.1 known) c.leads_on.ensures ∙ c.if-leads_on.true }

pub skipped-k-requires-in-loop-k : goal.skipped-k-requires-in-loop-k
skipped-k-requires-in-loop-k c =
    let i = c.loop-k.invariant in
    omega (arith, i.0, c.loop-k-test.true, c.args.self.now.skipping.long)

pub loop-k-smaller : goal.loop-k-smaller
loop-k-smaller c =
    let i = c.loop-k.invariant in
    let taken = c.loop-k-test.true in
    let next = skip_later _ c.args.self.now.goal _ c.args.self.now.skipping c.args.left _ c.skipped-k-in-loop-k.result (omega (arith, i.0)) c.skipped-k-in-loop-k.ensures in
    omega (arith, next.0)

pub loop-k-preserved : goal.loop-k-preserved
loop-k-preserved c =
    let a = c.args in
    let i = c.loop-k.invariant in
    let taken = c.loop-k-test.true in
    let known = rw i.0 at taken in
    let missed = tested a.company a.self.now.goal a.left (c.link.ensures ∙ link_read _ _ _ i.1 known) c.leads_on.ensures ∙ c.if-leads_on.false in
    let next = skip_later _ a.self.now.goal _ c.args.self.now.skipping a.left _ c.skipped-k-in-loop-k.result (omega (arith, i.0)) c.skipped-k-in-loop-k.ensures in
    let passes : ℕ → Type 0 = λ j. leads_on ((network a.self.now.good.book.bytes.now).link j) a.company a.self.now.goal a.left ≡ false in
    let more = passed_more passes _ _ i.4 missed in (
      i.0,
      i.1,
      omega (arith, i.2, next.0),
      omega (arith, i.0, next.1),
      passed_then passes _ _ _ more (next.2 a.company),
    )

pub returns : goal.returns
returns c =
    let i = c.loop-k.invariant in
    let all : c.loop-k.k ≡ (network c.args.self.now.good.book.bytes.now).links = omega (arith, c.loop-k-test.false) in
    rw all at i.4
