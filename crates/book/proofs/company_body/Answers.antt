-- `book::company_body` meets its contract.
use Rattle.std.proofs.Common.{sym, ◌∙◌}
use Rattle.laws.proofs.Firsts.{no_error}
use Rattle.laws.proofs.Judging.{book_good}
use Rattle.laws.proofs.Reading.{company_in}
use Rattle.book.proofs.company_body.Goals as goal

pub companies-requires : goal.companies-requires
companies-requires c = ((book_good _).0 (no_error _ _ c.judge.ensures (sym c.is_err.ensures.value ∙ c.if-is_err.false))).laid_out.header.present

pub body-requires-clause-listed : goal.body-requires-clause-listed
body-requires-clause-listed c =
    let laid = ((book_good _).0 (no_error _ _ c.judge.ensures (sym c.is_err.ensures.value ∙ c.if-is_err.false))).laid_out in
    rw c.from.ensures (company_in _ laid _ (rw c.companies.ensures at c.if-companies-company.false)).listed

pub body-requires-clause-e_in_bounds : goal.body-requires-clause-e_in_bounds
body-requires-clause-e_in_bounds c =
    let laid = ((book_good _).0 (no_error _ _ c.judge.ensures (sym c.is_err.ensures.value ∙ c.if-is_err.false))).laid_out in
    rw c.from.ensures (company_in _ laid _ (rw c.companies.ensures at c.if-companies-company.false)).inside
