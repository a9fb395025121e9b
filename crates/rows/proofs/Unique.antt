-- Each public contract of this crate allows one answer, and one end of the lent memory.
use mathlib.Core.Path.{◌≡◌, sym, ◌∙◌}
use mathlib.Core.Bool.{Bool}
use Prim.Native.Nat.{ℕ}
use Rattle.rows.specs.declared.Row.{Row}
use Rattle.rows.proofs.first.Reads as first
use Rattle.rows.proofs.more.Reads as more
use Rattle.rows.proofs.put.Reads as put
use Rattle.rows.proofs.after.Reads as after

pub first_one : (κs : _) (a : _) (r s : Row) (e e' : _) → first.Post κs a r e → first.Post κs a s e' → r ≡ s
first_one κs a r s e e' p q = p ∙ sym q

pub more_one : (κs : _) (a : _) (r s : Bool) (e e' : _) → more.Post κs a r e → more.Post κs a s e' → r ≡ s
more_one κs a r s e e' p q = p ∙ sym q

pub put_one : (κs : _) (a : _) (r s : ℕ) (e e' : _) → put.Post κs a r e → put.Post κs a s e' → (r ≡ s) × (e.1.1.0.now ≡ e'.1.1.0.now)
put_one κs a r s e e' p q = (p.0.ends ∙ sym q.0.ends, p.0.is ∙ sym q.0.is)

pub after_one : (κs : _) (a : _) (r s : Row) (e e' : _) → after.Post κs a r e → after.Post κs a s e' → r ≡ s
after_one κs a r s e e' p q = p ∙ sym q
