-- Each public contract of this crate allows one answer. `Post` is the contract as it stands beside the code: of the arguments, the answer
-- and the lent memory at the end.
use mathlib.Core.Path.{◌≡◌, sym, ◌∙◌}
use Rattle.outline.specs.Refusals.{Judged}
use Prim.Native.Nat.{ℕ}
use Rattle.book.proofs.judge.Reads as judge
use Rattle.book.proofs.company_body.Reads as company_body
use Rattle.book.proofs.refusal.number.Reads as number
use Rattle.book.proofs.refusal.place.Reads as place

pub judge_one : (κs : _) (a : _) (r s : Judged) (e e' : _) → judge.Post κs a r e → judge.Post κs a s e' → r ≡ s
judge_one κs a r s e e' p q = p ∙ sym q

-- the same bytes, at the same place of the same book
pub company_body_one : (κs : _) (a : _) (r s : _) (e e' : _) → company_body.Post κs a r e → company_body.Post κs a s e' →
    (r.now ≡ s.now) × (r.ref_ptr.0 ≡ s.ref_ptr.0) × (r.ref_ptr.1 ≡ s.ref_ptr.1)
company_body_one κs a r s e e' p q = (p.0 ∙ sym q.0, p.1.0 ∙ sym q.1.0, p.1.1 ∙ sym q.1.1)

pub number_one : (κs : _) (a : _) (r s : ℕ) (e e' : _) → number.Post κs a r e → number.Post κs a s e' → r ≡ s
number_one κs a r s e e' p q = p ∙ sym q

pub place_one : (κs : _) (a : _) (r s : ℕ) (e e' : _) → place.Post κs a r e → place.Post κs a s e' → r ≡ s
place_one κs a r s e e' p q = p ∙ sym q
