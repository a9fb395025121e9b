-- `selection::on_book::OnBook::or_run` meets its contract.
use borrow.Author.Rules.{rules}
use Rattle.selection.proofs.Fronts.{none_pays, one_pays}
use Rattle.selection.specs.Chosen.{earn_in}
use Rattle.outline.specs.Book.{network}
use Rattle.selection.proofs.on_book.OnBook.or_run.Goals as goal

pub returns-in_default : goal.returns-in_default
returns-in_default c =
    none_pays (earn_in c.args.self.book.bytes.now c.args.self.route) (network c.args.self.book.bytes.now).rules c.args.at c.args.rides c.args.rest c.args.held c.requires.1 c.requires.2
    _ c.best_rule.ensures c.in_default.is

pub returns : goal.returns
returns c =
    one_pays (earn_in c.args.self.book.bytes.now c.args.self.route) (network c.args.self.book.bytes.now).rules c.args.at c.args.rides c.args.rest c.args.held c.requires.1 c.requires.2
    _ c.best_rule.ensures c.in-Some.payer c.in-Some.is c.from.result c.after.result c.rather_than.result c.from.ensures (search rules) c.after.ensures c.rather_than.ensures
