use Rattle.std.proofs.Common.{ap, ◌∙◌}
use Rattle.table.specs.Rows.{found}
use Rattle.table.specs.Tables.{entries}
use Rattle.book.specs.Keys.{name_of, by_name}
use Rattle.book.proofs.Live.{stock_there}
use Rattle.book.proofs.book.Book.stock.Goals as goal

pub returns-clause-there : goal.returns-clause-there
returns-clause-there c = stock_there c.args.symbol (entries c.args.self.now.stocks) c.get.result (c.get.ensures ∙ ap (λ k. found name_of by_name k (entries c.args.self.now.stocks)) c.bytes.ensures)
