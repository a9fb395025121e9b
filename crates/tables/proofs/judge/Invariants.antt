-- `tables::judge` meets its contract.
use Rattle.std.proofs.Common.{◌≡◌, ℕ, Ok}
use Rattle.outline.specs.Refusals.{first_below}
use Rattle.outline.specs.Fares.{table_at}
use Rattle.outline.specs.Judging.{table_check}
use Rattle.tables.proofs.judge.Given as goal

abbrev pub invariant-loop-c : goal.invariant-loop-c
invariant-loop-c g l = first_below (λ (c : ℕ). table_check (g.S.Source.place l.source c) (table_at (g.S.Source.fares l.source) c)) l.c ≡ Ok tt
