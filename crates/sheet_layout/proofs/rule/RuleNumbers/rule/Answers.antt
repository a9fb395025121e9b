-- `sheet_layout::rule::RuleNumbers::rule` meets its contract.
use Rattle.std.proofs.Common.{arith}
use Rattle.laws.proofs.Sheet.{rule_sized_in}
use Rattle.sheet_layout.proofs.rule.RuleNumbers.rule.Goals as goal

pub copied-requires : goal.copied-requires
copied-requires c = (omega arith, rw c.companies.ensures (rule_sized_in _ _ c.args.self.inside).companies)

pub copied-requires-2 : goal.copied-requires-2
copied-requires-2 c = (omega arith, rw c.boarding.ensures (rule_sized_in _ _ c.args.self.inside).boarding)

pub copied-requires-3 : goal.copied-requires-3
copied-requires-3 c = (omega arith, rw c.alighting.ensures (rule_sized_in _ _ c.args.self.inside).alighting)

pub copied-requires-4 : goal.copied-requires-4
copied-requires-4 c = (omega arith, rw c.permitted.ensures (rule_sized_in _ _ c.args.self.inside).permitted)
