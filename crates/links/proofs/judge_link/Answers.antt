-- `links::judge_link` meets its contract.
use Rattle.std.proofs.Common.{sym, ap, ◌∙◌, not}
use Rattle.laws.proofs.Firsts.{demand_holds, demand_fails}
use Rattle.outline.specs.Judging.{link_check}
use Rattle.outline.specs.Network.{network_of}
use Rattle.links.proofs.judge_link.Goals as goal
use Rattle.links.proofs.judge_link.Goals.{then-not-good_link-via-then-not-good_link, then-not-good_link-via-else-not-good_link+then-is_repeated}

pub returns-then-not-good_link : goal.returns-then-not-good_link
unfolding link_check network_of
returns-then-not-good_link g c =
    rw c.from.ensures (elim c.then-not-good_link.branch [
      | then-not-good_link-via-then-not-good_link w ↦ sym (demand_fails _ _ _ (rw c.link.ensures at (sym c.good_link.ensures ∙ w.if-not-good_link.true)))
      | then-not-good_link-via-else-not-good_link+then-is_repeated w ↦
          sym (demand_holds _ _ _ (rw c.link.ensures at (sym c.good_link.ensures ∙ w.if-not-good_link.false)) ∙ demand_fails _ _ _ (ap not (sym w.is_repeated.ensures ∙ w.if-is_repeated.true)))
    ])

pub returns : goal.returns
unfolding link_check network_of
returns g c =
    sym (demand_holds _ _ _ (rw c.link.ensures at (sym c.good_link.ensures ∙ c.if-not-good_link.false)) ∙ demand_holds _ _ _ (ap not (sym c.is_repeated.ensures ∙ c.if-is_repeated.false)))
