-- Each row is written whole, and after the last one all of them are.
use Rattle.std.proofs.Common.{[], ◌++◌, sym, subst, ◌∙◌, arith}
use Rattle.std.specs.Io.KnownBytes.{Appends}
use Rattle.std.proofs.KnownBytes.{Appends-nil, Appends-trans}
use Rattle.outline.specs.Book.{network}
use Rattle.rows.specs.Rows.{Due, row_text}
use Rattle.rows.proofs.Walk.{due_first, due_after, left_less}
use Rattle.lister.proofs.Written.{Written, nothing_written, row_written, all_written, put_first}
use Rattle.lister.proofs.list.Goals as goal

pub loop-out-init : goal.loop-out-init
loop-out-init g c = record {
  due = subst (Due _) (sym c.first-row.ensures) (due_first _);
  written = ([], Appends-nil _, subst (λ r. Written c.args.book.now r []) (sym c.first-row.ensures) (nothing_written c.args.book.now));
}

pub put-end-requires : goal.put-end-requires
put-end-requires g c = (c.loop-out.invariant.due, omega arith)

pub after-row-requires : goal.after-row-requires
after-row-requires g c = c.loop-out.invariant.due

pub loop-out-smaller : goal.loop-out-smaller
loop-out-smaller g c =
    let t = sym c.more.ensures ∙ c.loop-out-test.true in
    rw c.after-row.ensures (left_less _ _ c.loop-out.invariant.due t)

pub loop-out-preserved : goal.loop-out-preserved
loop-out-preserved g c =
    let b = c.args.book.now in
    let row = c.loop-out.row in
    let done = c.loop-out.invariant.written.0 in
    let text = row_text (network b) row in
    let put = subst (Appends _ _) (put_first _ _ _ _ c.put-end.ensures.0) c.in_ok-write_all.ensures.bytes in
    record {
      due = subst (Due _) (sym c.after-row.ensures) (due_after _ _ c.loop-out.invariant.due);
      written = (
        done ++ text,
        Appends-trans _ _ _ done text c.loop-out.invariant.written.1 put,
        subst (λ r. Written b r (done ++ text)) (sym c.after-row.ensures) (row_written b row done c.loop-out.invariant.written.2),
      );
    }

pub returns : goal.returns
returns g c =
    let w = c.loop-out.invariant.written in
    subst (Appends _ _) (all_written _ _ w.0 w.2 (sym c.more.ensures ∙ c.loop-out-test.false)) w.1
