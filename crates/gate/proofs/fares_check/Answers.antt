-- `gate::fares_check` meets its contract.
use Rattle.std.proofs.Common.{sym}
use Rattle.fitting.proofs.Places.{book_places}
use Rattle.gate.proofs.fares_check.Goals as goal

pub refused-requires : goal.refused-requires
refused-requires c = book_places _ _ (sym c.in-Err.ensures)

pub returns-in-Ok : goal.returns-in-Ok
returns-in-Ok c = rw (← c.in-Ok.ensures)

pub returns-in-Err : goal.returns-in-Err
returns-in-Err c = rw (← c.in-Err.ensures) c.refused.ensures
