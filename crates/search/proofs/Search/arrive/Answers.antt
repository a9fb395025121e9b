-- `search::Search::arrive` meets its contract.
use Rattle.search.proofs.Stepping.{step_good, goal_reached, goal_missed}
use Rattle.search.proofs.Search.arrive.Goals as goal

pub better-requires : goal.better-requires
better-requires c =
    let r = c.requires.0 in
    let w = c.in-Some.ensures in
    (record { sound = r.sound; held = (w.held, step_good _ _ _ _ _ w r.good) })

pub returns-in-Some : goal.returns-in-Some
returns-in-Some c = goal_reached _ _ _ _ _ c.in-Some.ensures c.better.ensures

pub returns-in-None : goal.returns-in-None
returns-in-None c = goal_missed _ c.args.path _ _ _ c.in-None.ensures c.requires.0.sound
