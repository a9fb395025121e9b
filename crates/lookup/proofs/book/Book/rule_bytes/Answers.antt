-- `lookup::book::Book::rule_bytes` meets its contract.
use Rattle.laws.proofs.Reading.{rule_fits, rule_read}
use Rattle.outline.specs.declared.Rule.{Rule}
use Rattle.lookup.proofs.book.Book.rule_bytes.Goals as goal

pub invariant_of-result : goal.invariant_of-result
invariant_of-result c = record { inside = rw c.rules_body.ensures (rule_fits _ c.args.self.laid_out _ c.requires) }

pub returns : goal.returns
returns c = rule_read _ (λ (r : Rule). r) _ _ c.rules_body.ensures c.requires
