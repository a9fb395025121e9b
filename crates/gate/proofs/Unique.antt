-- Each contract of the C face allows one answer and one list left behind. `Post` is the contract as it stands beside the code: of the
-- arguments, the word and the lent memory at the end.
use mathlib.Core.Path.{◌≡◌, sym, ◌∙◌}
use mathlib.Core.List.{List}
use Prim.Native.Nat.{ℕ}
use Rattle.outline.specs.declared.Question.{Question}
use Rattle.outline.specs.declared.Answer.{Answer}
use Rattle.cheapest.proofs.Earlier.{one_answer}
use Rattle.telling.specs.Answers.{Tells, TellsCheapest}
use Rattle.gate.proofs.fares_check.Reads as fares_check
use Rattle.gate.proofs.fares_company.Reads as fares_company
use Rattle.gate.proofs.fares_read.Reads as fares_read
use Rattle.gate.proofs.fares_write.Reads as fares_write
use Rattle.gate.proofs.fares_price.Reads as fares_price
use Rattle.gate.proofs.fares_cheapest.Reads as fares_cheapest

pub check_one : (κs : _) (a : _) (r s : ℕ) (e e' : _) → fares_check.Post κs a r e → fares_check.Post κs a s e' → r ≡ s
check_one κs a r s e e' p q = p ∙ sym q

pub company_one : (κs : _) (a : _) (r s : ℕ) (e e' : _) → fares_company.Post κs a r e → fares_company.Post κs a s e' → r ≡ s
company_one κs a r s e e' p q = p ∙ sym q

-- the same word, and the same numbers or bytes in the lent list
pub read_one : (κs : _) (a : _) (r s : ℕ) (e e' : _) → fares_read.Post κs a r e → fares_read.Post κs a s e' →
    (r ≡ s) × (e.1.0.now ≡ e'.1.0.now)
read_one κs a r s e e' p q = (p.0 ∙ sym q.0, p.1 ∙ sym q.1)

pub write_one : (κs : _) (a : _) (r s : ℕ) (e e' : _) → fares_write.Post κs a r e → fares_write.Post κs a s e' →
    (r ≡ s) × (e.1.0.now ≡ e'.1.0.now)
write_one κs a r s e e' p q = (p.0 ∙ sym q.0, p.1 ∙ sym q.1)

-- ---- an answer is told in one way

tells_one : (a : Answer) (lent : List ℕ) (r s : ℕ) (after after' : List ℕ) → Tells a lent r after → Tells a lent s after' → (r ≡ s) × (after ≡ after')
tells_one a lent r s after after' p q = (p.returned ∙ sym q.returned, p.left ∙ sym q.left)

cheapest_told : (b : List ℕ) (q : Question) (lent : List ℕ) (r s : ℕ) (after after' : List ℕ)
    → TellsCheapest b q lent r after → TellsCheapest b q lent s after' → (r ≡ s) × (after ≡ after')
cheapest_told b q lent r s after after' p t =
    let same : t.answer ≡ p.answer = one_answer b q _ _ t.asked p.asked in
    tells_one p.answer lent r s after after' p.tells (rw same at t.tells)

pub price_one : (κs : _) (a : _) (r s : ℕ) (e e' : _) → fares_price.Post κs a r e → fares_price.Post κs a s e' →
    (r ≡ s) × (e.1.1.0.now ≡ e'.1.1.0.now)
price_one κs a r s e e' p q = tells_one _ _ r s _ _ p q

pub cheapest_one : (κs : _) (a : _) (r s : ℕ) (e e' : _) → fares_cheapest.Post κs a r e → fares_cheapest.Post κs a s e' →
    (r ≡ s) × (e.1.1.1.1.1.1.0.now ≡ e'.1.1.1.1.1.1.0.now)
cheapest_one κs a r s e e' p q = cheapest_told _ _ _ r s _ _ p q
