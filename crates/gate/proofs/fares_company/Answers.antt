-- `gate::fares_company` meets its contract.
use Rattle.std.proofs.Common.{sym, ◌∙◌}
use Rattle.std.proofs.lemmas.Bool.{lt-ltb}
use Rattle.laws.proofs.Firsts.{no_error}
use Rattle.laws.proofs.Reading.{company_in, body_length}
use Rattle.laws.proofs.Judging.{book_good}
use Rattle.outline.specs.Tests.{choose}
use Rattle.outline.specs.Judging.{company_body, company_offset, where_good}
use Rattle.gate.proofs.fares_company.Goals as goal

pub companies-requires : goal.companies-requires
companies-requires c = ((book_good _).0 (no_error _ _ c.judge.ensures (sym c.is_err.ensures.value ∙ c.if-is_err.false))).laid_out.header.present

pub offset-requires : goal.offset-requires
offset-requires c =
    let laid = ((book_good _).0 (no_error _ _ c.judge.ensures (sym c.is_err.ensures.value ∙ c.if-is_err.false))).laid_out in
    rw c.from-c.ensures (company_in _ laid _ (rw c.companies.ensures at c.if-companies-company.false)).listed

pub extent-requires : goal.extent-requires
extent-requires c =
    let laid = ((book_good _).0 (no_error _ _ c.judge.ensures (sym c.is_err.ensures.value ∙ c.if-is_err.false))).laid_out in
    rw c.from-c.ensures (company_in _ laid _ (rw c.companies.ensures at c.if-companies-company.false)).listed

pub returns : goal.returns
unfolding company_body company_offset where_good choose
returns c =
    let good = no_error _ _ c.judge.ensures (sym c.is_err.ensures.value ∙ c.if-is_err.false) in
    let h = rw c.companies.ensures at c.if-companies-company.false in
    let inside = (company_in _ ((book_good _).0 good).laid_out _ h).inside in
    let from = rw c.from-c.ensures at c.offset.ensures.0 in
    let long = rw c.from-c.ensures at c.extent.ensures.0 in
    rw (good, lt-ltb _ _ h, body_length _ _ inside, ← from, ← long) c.part.ensures
