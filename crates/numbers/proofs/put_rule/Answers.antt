-- `numbers::put_rule` meets its contract.
use mathlib.Core.Path.{◌≡◌, ap, ◌∙◌}
use Prim.Native.Nat.{ℕ}
use lib.ListN.{length, length-set, length-take, length-drop, length-append}
use Rattle.laws.proofs.Reading.{rule_of_sized}
use native.Mathlib.Omega.{arith}
use Rattle.outline.specs.Lending.{filled}
use mathlib.Core.List.{List, [], ◌∷◌, ◌++◌, append_assoc}
use Rattle.outline.specs.Book.{rule_of}
use Rattle.outline.specs.Sheet.{rule_sheet}
use Rattle.filling.proofs.Filled.{filled_store, filled_lent}
use Rattle.numbers.proofs.put_rule.Goals as goal

pub put_bytes-requires : goal.put_bytes-requires
put_bytes-requires c = rw c.first.ensures (omega (arith, (rule_of_sized _ _ c.args.rule.inside).companies, c.requires))

pub put_bytes-requires-2 : goal.put_bytes-requires-2
put_bytes-requires-2 c =
    let sized = rule_of_sized _ _ c.args.rule.inside in
    rw c.maps.ensures (simp (length-take, length-drop, length-set, length-append) (omega (arith, c.requires, sized.boarding, sized.alighting, sized.permitted)))

pub returns : goal.returns
unfolding rule_sheet
returns c =
    let sized = rule_of_sized _ _ c.args.rule.inside in
    let begun = rw c.first.ensures at c.put_bytes.ensures in
    let d = c.args.sheet.now in
    let r = rule_of c.args.rule.body.now c.args.rule.k in
    let first : List ℕ = r.rides ∷ r.companies in
    let maps : List ℕ = r.boarding ++ (r.alighting ++ r.permitted) in
    let maps-long : length maps ≡ 26 = simp length-append (omega (arith, sized.boarding, sized.alighting, sized.permitted)) in
    let five : 5 ≡ length first = omega (arith, sized.companies) in
    let amount = filled_store first d _ 5 _ begun five (omega (arith, c.requires)) ∙ ap (λ (x : ℕ). filled (first ++ (x ∷ [])) d) c.amount.ensures in
    let six : 6 ≡ length (first ++ (r.amount ∷ [])) = simp length-append (omega arith) in
    filled_lent (first ++ (r.amount ∷ [])) maps d _ _ 6 amount six (omega (arith, c.requires)) (rw c.maps.ensures at c.put_bytes-2.ensures)
    ∙ ap (λ (x : List ℕ). filled x d) (append_assoc first (r.amount ∷ []) maps)
