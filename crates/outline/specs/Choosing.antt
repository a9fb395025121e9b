-- The selection that counts, computed. That it is the one of Selections.antt is a theorem.
use Rattle.std.specs.Prelude.{ℕ, zero, suc, ◌+◌, Option, Some, None, List, [], ◌∷◌, length, ltb, leb}
use Rattle.outline.specs.declared.Run.{Run}
use Rattle.outline.specs.declared.Payer.{Payer}
use Rattle.outline.specs.Tests.{choose}
use Rattle.outline.specs.Selections.{Earn, total}

-- of a rule and a later one, number k: the greater saving, then the lower number
unfoldable pub or_rule : Option Payer → ℕ → Option ℕ → Option Payer
or_rule held k None = held
or_rule None k (Some y) = Some (record { rule = k; yen = y })
or_rule (Some p) k (Some y) = choose (ltb p.yen y) (Some (record { rule = k; yen = y })) (Some p)

-- of the first n rules
unfoldable pub best_rule : (ℕ → Option ℕ) → ℕ → Option Payer
best_rule saving zero = None
best_rule saving (suc k) = or_rule (best_rule saving k) k (saving k)

-- s, unless it earns less than t, or as much with more runs
unfoldable pub rather : Earn → List Run → List Run → List Run
rather earn s t =
    choose (ltb (total earn s) (total earn t)) t
    (choose (ltb (total earn t) (total earn s)) s
    (choose (leb (length s) (length t)) s t))

-- a run of so many rides from ride `at` on, by its best rule, with `rest` after it, rather than what is held
unfoldable pub with_run : Earn → ℕ → ℕ → List Run → List Run → Option Payer → List Run
with_run earn at rides rest held None = held
with_run earn at rides rest held (Some p) = rather earn (record { first = at; rides = rides; rule = p.rule } ∷ rest) held

unfoldable pub or_run : Earn → ℕ → ℕ → ℕ → List Run → List Run → List Run
or_run earn rules at rides rest held = with_run earn at rides rest held (best_rule (earn at rides) rules)

-- of the last rides of a route, so many, from ride `at` on: ride `at` in no run, or the first of a run of four, three or two
unfoldable pub best_from : Earn → ℕ → ℕ → ℕ → List Run
best_from earn rules zero at = []
best_from earn rules (suc zero) at = []
best_from earn rules (suc (suc zero)) at = or_run earn rules at 2 [] []
best_from earn rules (suc (suc (suc zero))) at =
    or_run earn rules at 2 []
    (or_run earn rules at 3 []
    (best_from earn rules (suc (suc zero)) (at + 1)))
best_from earn rules (suc (suc (suc (suc n)))) at =
    or_run earn rules at 2 (best_from earn rules (suc (suc n)) (at + 2))
    (or_run earn rules at 3 (best_from earn rules (suc n) (at + 3))
    (or_run earn rules at 4 (best_from earn rules n (at + 4))
    (best_from earn rules (suc (suc (suc n))) (at + 1))))

abbrev pub best_runs : Earn → ℕ → ℕ → List Run
best_runs earn rules n = best_from earn rules n 0
