-- `writing::put_contents` meets its contract.
use native.Mathlib.Omega.{arith}
use mathlib.Core.Path.{◌≡◌, ap, ◌∙◌}
use Prim.Native.Nat.{ℕ, ◌+◌, ◌*◌, ◌≤◌}
use lib.ListN.{length}
use Rattle.outline.specs.Lending.{filled}
use Rattle.outline.specs.Tests.{in_order}
use Rattle.outline.specs.Sheet.{companies_in, fares_in}
use Rattle.outline.specs.Writing.{body_in, offset_in, entry_bytes}
use Rattle.filling.proofs.InOrder.{order_more_length, order_turn}
use Rattle.laws.proofs.Sheet.{companies_in_lem, links_in_lem, rules_in_lem}
use Rattle.writing.proofs.Turns.{parts}
use Rattle.writing.proofs.put_contents.Goals as goal

pub returns : goal.returns
unfolding entry_bytes
returns c =
    let s = c.args.sheet.numbers.now in
    let p = parts s c.args.sheet.laid_out in
    let F = fares_in s in
    let n = companies_in s in
    let offset = c.put_entries-offset.ensures.value in
    let links : c.links_length-links.result ≡ length (body_in F n) = omega (arith, c.links_length-links.ensures, c.links.ensures, links_in_lem s, p.links) in
    let to = c.from-to.ensures ∙ c.companies.ensures ∙ companies_in_lem s in
    let d = c.args.book.now in
    let room : length (in_order (entry_bytes F) (n + 2)) ≤ length d = omega (arith, p.contents (n + 2), c.requires) in
    let rules : c.rules_length-rules.result ≡ length (body_in F (n + 1)) = omega (arith, c.rules_length-rules.ensures, c.rules.ensures, rules_in_lem s, p.rules) in
    let next : c.put_entries-offset.result + c.links_length-links.result ≡ offset_in F (n + 1) = omega (arith, order_more_length (body_in F) n) in
    let e1 = order_turn (entry_bytes F) (n + 2) n d _ _ (4 * c.from-to.result) (omega arith) room c.put_entries-offset.ensures.book_after (omega (arith, p.contents n)) (rw (offset, links) at c.put_entry.ensures) in
    let e2 = order_turn (entry_bytes F) (n + 2) (n + 1) d _ _ (4 * c.from-to.result + 4) (omega arith) room e1 (omega (arith, p.contents (n + 1))) (rw (next, rules) at c.put_entry-2.ensures) in
    let two : n + 1 + 1 ≡ n + 2 = omega arith in
    e2 ∙ ap (λ (m : ℕ). filled (in_order (entry_bytes F) m) d) two
