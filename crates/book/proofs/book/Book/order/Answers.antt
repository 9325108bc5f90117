use Rattle.std.proofs.Common.{sym, ◌∙◌}
use Rattle.table.specs.Tables.{entries}
use Rattle.book.proofs.Live.{made_again, made_live}
use Rattle.book.proofs.book.Book.order.Goals as goal

pub returns-clause-answer : goal.returns-clause-answer
returns-clause-answer c = made_again c.args.reference (entries c.args.self.now.orders) c.in_ok-get.field-0 c.new.result c.args.self.now.sound (sym c.get.ensures ∙ c.in_ok-get.was) c.new.ensures

pub returns-clause-live : goal.returns-clause-live
returns-clause-live c = made_live c.args.reference (entries c.args.self.now.orders) c.new.result (returns-clause-answer c)
