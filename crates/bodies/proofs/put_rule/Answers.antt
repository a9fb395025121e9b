-- `bodies::put_rule` meets its contract.
use native.Mathlib.Omega.{arith}
use mathlib.Core.Path.{◌≡◌, ap, ◌∙◌}
use Prim.Native.Nat.{ℕ}
use lib.ListN.{length, length-take, length-drop, length-append}
use mathlib.Core.List.{List, ◌∷◌, ◌++◌, append_assoc}
use Rattle.outline.specs.Lending.{filled}
use Rattle.outline.specs.Sheet.{rule_in}
use Rattle.outline.specs.Writing.{two_bytes, rule_bytes}
use Rattle.filling.proofs.Filled.{filled_lent}
use Rattle.laws.proofs.Sheet.{rule_sized_in}
use Rattle.bodies.proofs.put_rule.Goals as goal

pub put_numbers-requires-clause-from_in_bounds : goal.put_numbers-requires-clause-from_in_bounds
put_numbers-requires-clause-from_in_bounds c =
    let sized = rule_sized_in c.args.rule.sheet.now c.args.rule.at c.args.rule.inside in
    rw c.first.ensures (omega (arith, sized.companies, c.requires.rule_numbers_in_bounds))

pub put_numbers-requires-2-clause-from_in_bounds : goal.put_numbers-requires-2-clause-from_in_bounds
put_numbers-requires-2-clause-from_in_bounds c =
    let sized = rule_sized_in c.args.rule.sheet.now c.args.rule.at c.args.rule.inside in
    rw c.maps.ensures (simp (length-take, length-drop, length-append) (omega (arith, c.requires.rule_numbers_in_bounds, sized.boarding, sized.alighting, sized.permitted)))

pub returns : goal.returns
unfolding rule_bytes two_bytes
returns c =
    let r = rule_in c.args.rule.sheet.now c.args.rule.at in
    let sized = rule_sized_in c.args.rule.sheet.now c.args.rule.at c.args.rule.inside in
    let first = rw c.first.ensures at c.put_numbers.ensures in
    let five : 5 ≡ length (r.rides ∷ r.companies) = omega (arith, sized.companies) in
    let amount = filled_lent (r.rides ∷ r.companies) (two_bytes r.amount) c.args.book.now _ _ 5 first five (omega (arith, c.requires.rule_numbers_in_bounds)) (rw c.amount.ensures at c.put_word.ensures) in
    let maps = r.boarding ++ (r.alighting ++ r.permitted) in
    let maps-long : length maps ≡ 26 = simp length-append (omega (arith, sized.boarding, sized.alighting, sized.permitted)) in
    let seven : 7 ≡ length ((r.rides ∷ r.companies) ++ two_bytes r.amount) = simp length-append (omega (arith, sized.companies)) in
    filled_lent ((r.rides ∷ r.companies) ++ two_bytes r.amount) maps c.args.book.now _ _ 7 amount seven (omega (arith, c.requires.rule_numbers_in_bounds)) (rw c.maps.ensures at c.put_numbers-2.ensures)
    ∙ ap (λ (x : List ℕ). filled x c.args.book.now) (append_assoc (r.rides ∷ r.companies) (two_bytes r.amount) maps)
