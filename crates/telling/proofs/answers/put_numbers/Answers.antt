-- `telling::answers::put_numbers` meets its contract.
use Prim.Native.Nat.{ℕ}
use mathlib.Core.Path.{refl, ap, ◌∙◌}
use mathlib.Core.List.{[], ◌∷◌}
use native.Mathlib.Omega.{arith}
use lib.ListN.{length, length-set, length-take, length-drop}
use Rattle.outline.specs.Lending.{filled}
use Rattle.telling.specs.Answers.{places_numbers, answer_numbers}
use Rattle.filling.proofs.Filled.{two_stores, length-filled, filled_lent}
use Rattle.telling.proofs.Putting.{places_length, numbers_length}
use Rattle.telling.proofs.answers.put_numbers.Goals as goal

pub bounds-answer-1 : goal.bounds-answer-1
bounds-answer-1 c = simp length-set (omega arith)

pub slice_bounds-put_places-count : goal.slice_bounds-put_places-count
slice_bounds-put_places-count c = simp length-set (omega arith)

pub slice_bounds-put_places-start : goal.slice_bounds-put_places-start
slice_bounds-put_places-start c = simp length-set (omega arith)

pub put_places-requires : goal.put_places-requires
put_places-requires c = (c.requires.0, simp (length-take, length-drop, length-set) (omega arith))

pub returns : goal.returns
unfolding answer_numbers
returns c =
    let a = c.args.a in
    let d = c.args.answer.now in
    let first = two_stores _ _ d (omega arith) ∙ ap (λ (x : ℕ). filled (a.fare ∷ x ∷ []) d) c.from.ensures in
    filled_lent (a.fare ∷ a.rides ∷ []) (places_numbers a.places) d _ _ 2 first refl (omega (arith, places_length a.places)) c.put_places.ensures

pub shape_of-answer : goal.shape_of-answer
shape_of-answer c =
    let a = c.args.a in
    ap length (returns c) ∙ length-filled (answer_numbers a) _ (omega (arith, numbers_length a c.requires.0))
