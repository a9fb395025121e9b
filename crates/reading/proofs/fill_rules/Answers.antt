-- `reading::fill_rules` meets its contract.
use lib.ListN.{length, length-take, length-drop}
use Rattle.outline.specs.Book.{body_of, rules_entry, rule_count, rule_of, fares_of}
use native.Mathlib.Omega.{arith}
use mathlib.Core.Path.{◌≡◌, sym, ap, ◌∙◌}
use Prim.Native.Nat.{ℕ, ◌*◌, ◌<◌}
use mathlib.Core.List.{List}
use Rattle.outline.specs.Lending.{filled}
use Rattle.outline.specs.Tests.{in_order}
use Rattle.outline.specs.Fares.{rule_at}
use Rattle.outline.specs.Sheet.{rule_sheet, rules_sheet}
use Rattle.filling.proofs.InOrder.{order_turn_sized}
use Rattle.filling.proofs.Sizes.{rule_sheet_length}
use Rattle.filling.proofs.Whole.{book_whole, rules_of, rule_of_lem, rules_sheet_length}
use Rattle.laws.proofs.Reading.{network_rules, rule_fits}
use Rattle.reading.proofs.fill_rules.Goals as goal
use Rattle.reading.proofs.fill_rules.Goals.{After-rules_numbers-at}

-- what is known of a turn once its place is reckoned
met : (c : After-rules_numbers-at) → (c.rules_numbers-at.result ≡ 32 * c.loop-k.k) × (c.loop-k.k < rule_count c.args.book.bytes.now) × (length (rules_sheet (fares_of c.args.book.bytes.now)) ≡ 32 * rule_count c.args.book.bytes.now) × (c.rules_body-body.result.now ≡ body_of c.args.book.bytes.now (rules_entry c.args.book.bytes.now))
met c = (omega (arith, c.rules_numbers-at.ensures.0, c.from.ensures), omega (arith, network_rules c.args.book.bytes.now, c.rules-k-end.ensures, c.loop-k-test.true), rules_sheet_length _ (book_whole _ c.args.book.laid_out) ∙ ap (λ (n : ℕ). 32 * n) (rules_of c.args.book.bytes.now), c.rules_body-body.ensures)

pub invariant_of-put_rule : goal.invariant_of-put_rule
invariant_of-put_rule c = let t = met (goal.at.invariant_of-put_rule c).After-rules_numbers-at in record { inside = rw t.3 (rule_fits _ c.args.book.laid_out _ (rw (network_rules c.args.book.bytes.now) t.1)) }

pub put_rule-requires : goal.put_rule-requires
put_rule-requires c = let t = met (goal.at.put_rule-requires c).After-rules_numbers-at in simp (length-take, length-drop) (omega (arith, c.requires, c.loop-k.auto.sheet))

pub loop-k-preserved : goal.loop-k-preserved
unfolding rules_sheet
loop-k-preserved c =
    let t = met (goal.at.loop-k-preserved c).After-rules_numbers-at in
    let b = c.args.book.bytes.now in
    let k = c.loop-k.k in
    let many = rules_of b in
    let rule : rule_of c.rules_body-body.result.now k ≡ rule_at (fares_of b) k = ap (λ (x : List ℕ). rule_of x k) t.3 ∙ sym (rule_of_lem b k t.1) in
    order_turn_sized (λ (j : ℕ). rule_sheet (rule_at (fares_of b) j)) 32 (length (fares_of b).rules) k c.args.sheet.now _ _ _ (λ j l. rule_sheet_length (rule_at (fares_of b) j) ((book_whole b c.args.book.laid_out).sized j l))
    (omega arith) (omega (arith, c.requires)) c.loop-k.invariant t.0 (rw rule at c.put_rule.ensures)

pub returns : goal.returns
unfolding rules_sheet
returns c =
    let b = c.args.book.bytes.now in
    let e : c.loop-k.k ≡ length (fares_of b).rules = omega (arith, rules_of b, network_rules b, c.rules-k-end.ensures, c.loop-k.auto.k-end, c.loop-k-test.false) in
    c.loop-k.invariant ∙ ap (λ (n : ℕ). filled (in_order (λ (j : ℕ). rule_sheet (rule_at (fares_of b) j)) n) c.args.sheet.now) e
