-- `writing::fill` meets its contract.
use Prim.Native.Nat.{ℕ, ◌+◌}
use lib.ListN.{length, length-take, length-drop, length-append}
use mathlib.Core.List.{List, ◌++◌, append_assoc}
use Rattle.laws.proofs.Sheet.{links_in_lem, rules_in_lem}
use Rattle.writing.proofs.Turns.{parts, book_parts, links_body, rules_body}
use Rattle.writing.proofs.Small.{link_bytes_lem, rule_bytes_lem}
use Rattle.outline.specs.Writing.{body_in, header_bytes, entry_bytes}
use Rattle.filling.proofs.Filled.{filled_lent}
use native.Mathlib.Omega.{arith}
use mathlib.Core.Path.{◌≡◌, refl, sym, ap, ◌∙◌}
use Rattle.outline.specs.Lending.{filled}
use Rattle.outline.specs.Tests.{in_order}
use Rattle.outline.specs.Sheet.{companies_in, links_in, rules_in, fares_in}
use Rattle.writing.proofs.fill.Goals as goal

pub put_links-requires : goal.put_links-requires
put_links-requires c =
    let s = c.args.sheet.numbers.now in
    let p = parts s c.args.sheet.laid_out in
    let n : c.links-links.result ≡ links_in s = c.links-links.ensures ∙ links_in_lem s in
    record {
      n_bound = (omega (arith, p.few_links), omega (arith, c.args.sheet.links_begin, c.args.sheet.laid_out.ends), omega (arith, p.links, p.book, c.requires.1));
      by_index = λ k h. rw c.args.sheet.links_begin (link_bytes_lem s c.requires.0 k (omega arith));
    }

pub put_rules-requires : goal.put_rules-requires
put_rules-requires c =
    let s = c.args.sheet.numbers.now in
    let p = parts s c.args.sheet.laid_out in
    let links : c.links-links.result ≡ links_in s = c.links-links.ensures ∙ links_in_lem s in
    let n : c.rules-rules.result ≡ rules_in s = c.rules-rules.ensures ∙ rules_in_lem s in
    record {
      n_bound = (omega (arith, p.few_rules), omega (arith, c.args.sheet.rules_begin, c.args.sheet.laid_out.ends), simp (length-take, length-drop) (omega (arith, p.links, p.rules, p.book, links, c.links_length.ensures, c.first_body-tables.ensures, c.companies_length.ensures, c.requires.1)));
      by_index = λ k h. rw c.args.sheet.rules_begin (rule_bytes_lem s c.requires.0 k (omega arith));
    }

pub returns : goal.returns
unfolding header_bytes
returns c =
    let s = c.args.sheet.numbers.now in
    let p = parts s c.args.sheet.laid_out in
    let F = fares_in s in
    let n = companies_in s in
    let d = c.args.book.now in
    let contents : List ℕ = in_order (entry_bytes F) (n + 2) in
    let tables : List ℕ = in_order (body_in F) n in
    let contents-long = p.contents (n + 2) in
    let links : c.links-links.result ≡ links_in s = c.links-links.ensures ∙ links_in_lem s in
    let rules : c.rules-rules.result ≡ rules_in s = c.rules-rules.ensures ∙ rules_in_lem s in
    let changes = c.first_body-tables.result + c.companies_length.result in
    let discounts = changes + c.links_length.result in
    let header : c.put_header.new.book ≡ filled (header_bytes F) d = rw (c.companies.ensures, c.links-links.ensures, c.rules-rules.ensures) at c.put_header.ensures in
    let e1 = filled_lent (header_bytes F) contents d _ _ 4 header refl (omega arith) c.put_contents.ensures in
    let l2 : c.first_body-tables.result ≡ length (header_bytes F ++ contents) = simp length-append (omega arith) in
    let e2 = filled_lent (header_bytes F ++ contents) tables d _ _ c.first_body-tables.result e1 l2 (omega arith) c.put_companies.ensures in
    let l3 : changes ≡ length ((header_bytes F ++ contents) ++ tables) = simp length-append (omega arith) in
    let links-filled = rw (c.args.sheet.links_begin, links, ← links_body s c.args.sheet.laid_out) at c.put_links.ensures in
    let rules-filled = rw (c.args.sheet.rules_begin, rules, ← rules_body s c.args.sheet.laid_out) at c.put_rules.ensures in
    let e3 = filled_lent ((header_bytes F ++ contents) ++ tables) (body_in F n) d _ _ changes e2 l3 (omega (arith, p.links, p.rules, p.book, c.requires.1)) links-filled in
    let l4 : discounts ≡ length (((header_bytes F ++ contents) ++ tables) ++ body_in F n) = simp length-append (omega (arith, p.links, c.links_length.ensures, links)) in
    filled_lent (((header_bytes F ++ contents) ++ tables) ++ body_in F n) (body_in F (n + 1)) d _ _ discounts e3 l4 (omega (arith, p.rules, p.book, c.requires.1)) rules-filled
    ∙ ap (λ (x : List ℕ). filled x d) (simp append_assoc (sym (book_parts s)))
