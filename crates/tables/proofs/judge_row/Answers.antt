-- `tables::judge_row` meets its contract.
use Rattle.std.proofs.Common.{arith, sym, ◌∙◌}
use Rattle.laws.proofs.Firsts.{demand_holds, demand_fails, first_more, first_is}
use Rattle.outline.specs.Judging.{entry_check, row_check}
use Rattle.tables.proofs.judge_row.Goals as goal

pub returns-then-not-good_entry : goal.returns-then-not-good_entry
unfolding row_check entry_check
returns-then-not-good_entry g c =
    let bad = rw c.entry.ensures at (sym c.good_entry.ensures ∙ c.if-not-good_entry.true) in
    rw c.place.ensures (sym (first_is _ _ _ _ c.loop-j.invariant (omega arith) (demand_fails _ _ _ bad)))

pub loop-j-preserved : goal.loop-j-preserved
unfolding entry_check
loop-j-preserved g c = first_more _ _ c.loop-j.invariant (demand_holds _ _ _ (rw c.entry.ensures at (sym c.good_entry.ensures ∙ c.if-not-good_entry.false)))
