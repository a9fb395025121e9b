-- `search::Search::by_rides` and `search::Search::by_links`, which call each other, meet their contracts: the rides left fall.
use mathlib.Core.Path.{◌≡◌, sym, subst}
use mathlib.Core.List.{List}
use native.Mathlib.Omega.{arith}
use Rattle.outline.specs.declared.Station.{Station}
use Rattle.outline.specs.declared.Leg.{Leg}
use Rattle.outline.specs.Book.{network}
use Rattle.laws.proofs.Book.{book_links}
use Rattle.laws.proofs.Reading.{links_few}
use Rattle.routes.specs.Held.{rides_of}
use Rattle.cheapest.specs.Onward.{From, Over}
use Rattle.best.specs.declared.Best.{Best}
use Rattle.best.specs.Kept.{Improves}
use Rattle.best.proofs.Improving.{loop_none, loop_turn}
use Rattle.search.specs.Steps.{Arrived}
use Rattle.search.proofs.Stepping.{step_good, step_count, link_reached, link_taken, link_missed, link_walked, next_passed, last_step, whole_step}
use Prim.Native.Nat.{ℕ, ◌+◌, ◌-◌, ◌<◌}
use Rattle.search.proofs.Search.+by_links_by_rides.Goals as goal
use Rattle.search.proofs.Search.+by_links_by_rides.Goals.{by_rides-in-Some-to_link, by_rides-in_default-to_link}

pub by_links-over-requires : goal.by_links-over-requires
by_links-over-requires t c =
    let r = c.requires in
    (r.0.held.sized, r.1)

pub by_links-by_rides-requires : goal.by_links-by_rides-requires
by_links-by_rides-requires t c =
    let r = c.requires in
    let e : c.args.left + c.args.left + 1 ≡ t = c.decreases in
    let f : c.args.left + c.args.left < t = omega arith in
    (f, (r.0, subst (λ (x : Station). Arrived (network c.args.self.now.good.book.bytes.now) (rides_of c.args.path) x c.args.k) (sym c.over.ensures) (link_walked _ _ _ (book_links _ c.args.self.now.good.valid) r.1)))

pub by_links-returns : goal.by_links-returns
by_links-returns t c =
    subst (λ (x : Station). Improves (network c.args.self.now.good.book.bytes.now) c.args.best c.by_rides.result (From (network c.args.self.now.good.book.bytes.now) c.args.self.now.goal c.args.left (rides_of c.args.path) x)) c.over.ensures c.by_rides.ensures

pub by_rides-arrive-kept-requires : goal.by_rides-arrive-kept-requires
by_rides-arrive-kept-requires t c =
    let r = c.requires in
    (record { held = r.0.held; good = r.0.good; some = omega arith; room = omega (arith, r.0.room, r.0.some); sound = r.0.sound }, r.1)

pub by_rides-returns-then-left-lt2 : goal.by_rides-returns-then-left-lt2
by_rides-returns-then-left-lt2 t c =
    let r = c.requires in
    last_step _ _ _ _ _ (book_links _ c.args.self.now.good.valid) r.0.good r.0.some (omega arith) c.arrive-kept.ensures

pub by_rides-loop-next-init : goal.by_rides-loop-next-init
by_rides-loop-next-init t c =
    let a = c.args in
    next_passed _ a.self.now.goal (rides_of a.path) a.at a.left (book_links _ c.args.self.now.good.valid) (omega arith) 0 (omega arith) _ c.next_link-next.ensures (loop_none _ _ _ c.arrive-kept.ensures.sound)

pub by_rides-by_links-kept-requires : goal.by_rides-by_links-kept-requires
by_rides-by_links-kept-requires t c =
    let r = c.requires in
    let w = c.in-Some-to_link.ensures in
    let inv = rw c.in-Some.is at c.loop-next.invariant in
    let e : c.args.left + c.args.left ≡ t = c.decreases in
    let f : (c.args.left - 1) + (c.args.left - 1) + 1 < t = omega arith in (
      f,
      (
        record {
          held = w.held;
          good = step_good _ _ _ _ _ w r.0.good;
          some = omega arith;
          room = omega (arith, step_count _ _ _ _ _ w r.0.held.sized, r.0.room);
          sound = inv.1.sound;
        },
        link_reached _ c.args.self.now.goal _ _ c.args.left _ _ w inv.0,
      ),
    )

pub by_rides-overflow_add-k : goal.by_rides-overflow_add-k
by_rides-overflow_add-k t c =
    let inv = rw c.in-Some.is at c.loop-next.invariant in
    omega (arith, inv.0, links_few _ c.args.self.now.good.book.laid_out)

pub by_rides-loop-next-preserved : goal.by_rides-loop-next-preserved
by_rides-loop-next-preserved t c =
    let a = c.args in
    let N = network a.self.now.good.book.bytes.now in
    let k = c.in-Some.k in
    let kept = c.loop-next.kept in
    let inv = rw c.in-Some.is at c.loop-next.invariant in
    let Q : ℕ → List Leg → Type 0 = λ k. Over N a.self.now.goal (a.left - 1) (rides_of a.path) a.at k in
    let turn : Improves N kept c.match-to_link.kept (Q k) =
    elim c.match-to_link.branch [
      | by_rides-in-Some-to_link w ↦ subst (λ (b : Best). Improves N kept b (Q k)) (sym w.kept-is) (link_taken N a.self.now.goal a.path a.at (a.left - 1) k _ w.in-Some-to_link.ensures w.by_links-kept.ensures)
      | by_rides-in_default-to_link w ↦ subst (λ (b : Best). Improves N kept b (Q k)) (sym w.kept-is) (link_missed N a.self.now.goal a.path a.at (a.left - 1) k kept w.in_default-to_link.ensures inv.1.sound)
    ] in
    next_passed N a.self.now.goal (rides_of a.path) a.at a.left (book_links _ c.args.self.now.good.valid) (omega arith) (k + 1) (omega (arith, inv.0)) _ c.next_link-next-in-Some.ensures (loop_turn N Q k inv.1 turn)

pub by_rides-returns : goal.by_rides-returns
by_rides-returns t c =
    let a = c.args in
    let r = c.requires in
    let N = network a.self.now.good.book.bytes.now in
    let inv = rw c.in_default.is at c.loop-next.invariant in
    whole_step N a.self.now.goal (rides_of a.path) a.at a.left (book_links _ c.args.self.now.good.valid) r.0.good r.0.some c.arrive-kept.ensures inv.1
