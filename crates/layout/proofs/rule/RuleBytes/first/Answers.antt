-- `layout::rule::RuleBytes::first` meets its contract.
use mathlib.Core.Path.{ap, ◌∙◌}
use Prim.Native.Nat.{ℕ, ◌*◌}
use native.Mathlib.Nat.{add-zero}
use Rattle.outline.specs.Tests.{part}
use Rattle.laws.proofs.Reading.{rule_first}
use Rattle.layout.proofs.rule.RuleBytes.first.Goals as goal

pub returns : goal.returns
returns c = c.part.ensures ∙ ap (λ (a : ℕ). part c.args.self.body.now a 5) (add-zero (33 * c.args.self.k)) ∙ rule_first _ _ c.args.self.inside
