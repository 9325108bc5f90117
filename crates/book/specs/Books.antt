-- The plain book that a book of the code is, and its slots.
use Rattle.std.specs.Prelude.{ℕ}
use Rattle.table.specs.Tables.{entries, room}
use Rattle.book.specs.declared.book.Book.{Book}
use Rattle.book.specs.Plain.{Plain, Slots}

abbrev pub plain : Book → Plain
plain b = record { event = b.event; stocks = entries b.stocks; orders = entries b.orders }

abbrev pub slots : Book → Slots
slots b = record { for_stocks = room b.stocks; for_orders = room b.orders }

abbrev pub lent : ℕ → ℕ → Slots
lent m n = record { for_stocks = m; for_orders = n }
