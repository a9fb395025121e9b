-- `lookup::book::rule` meets its contract.
use Rattle.std.proofs.Common.{arith}
use Rattle.laws.proofs.Reading.{rule_of_sized}
use Rattle.lookup.proofs.book.rule.Goals as goal

pub numbers-requires : goal.numbers-requires
numbers-requires c = (omega arith, rw c.companies.ensures (rule_of_sized _ _ c.args.bytes.inside).companies)

pub numbers-requires-2 : goal.numbers-requires-2
numbers-requires-2 c = (omega arith, rw c.boarding.ensures (rule_of_sized _ _ c.args.bytes.inside).boarding)

pub numbers-requires-3 : goal.numbers-requires-3
numbers-requires-3 c = (omega arith, rw c.alighting.ensures (rule_of_sized _ _ c.args.bytes.inside).alighting)

pub numbers-requires-4 : goal.numbers-requires-4
numbers-requires-4 c = (omega arith, rw c.permitted.ensures (rule_of_sized _ _ c.args.bytes.inside).permitted)
