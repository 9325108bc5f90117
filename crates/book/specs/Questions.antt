-- The questions that read a book alone.
use Rattle.std.specs.Prelude.{ℕ, Bool, true, false, cond, ◌&&◌, List, ◌++◌, map, length, drop, is_some, Some, None, Ok, Err, filter, Option, Result, nat_le}
use Rattle.std.specs.Str.{bytes_eq}
use Rattle.codes.specs.declared.event.EventCode.{EventCode}
use Rattle.codes.specs.declared.refusal.Refusal.{Refusal}
use Rattle.codes.specs.declared.refusal.Refusal.TheVariants.{NoStock, TooFewRows}
use Rattle.codes.specs.declared.short.ShortSell.{ShortSell}
use Rattle.codes.specs.declared.side.Side.{Side}
use Rattle.codes.specs.declared.side.Side.TheVariants.{Buy, Sell}
use Rattle.codes.specs.declared.trading.Trading.{Trading}
use Rattle.wire.specs.declared.order.OrderRow.{OrderRow}
use Rattle.wire.specs.Names.{Symbol}
use Rattle.book.specs.declared.rows.BookRow.{BookRow}
use Rattle.book.specs.declared.rows.Stock.{Stock}
use Rattle.book.specs.Plain.{Plain, stock_of}

-- the event code
abbrev pub event_in : Plain → Option EventCode
event_in book = book.event

-- the two states of a stock
abbrev pub both_states : Option Stock → Result (Option Trading × Option ShortSell) Refusal
both_states None = Err NoStock
both_states (Some stock) = Ok (stock.trading, stock.short)

unfoldable pub states_of : Plain → Symbol → Result (Option Trading × Option ShortSell) Refusal
states_of book symbol = both_states (stock_of symbol book)

-- the orders of a stock on one side
abbrev pub same_side : Side → Side → Bool
same_side Buy Buy = true
same_side Buy Sell = false
same_side Sell Buy = false
same_side Sell Sell = true

abbrev pub asked : Symbol → Side → OrderRow → Bool
asked symbol side order = bytes_eq order.symbol.bytes symbol.bytes && same_side order.side side

abbrev pub shown : OrderRow → BookRow
shown order = record { reference = order.reference; shares = order.shares; price = order.price }

-- one row for each of them, the smallest reference first
unfoldable pub rows_of : Symbol → Side → List OrderRow → List BookRow
rows_of symbol side orders = map shown (filter (asked symbol side) orders)

-- into n lent rows
abbrev pub fitting : ℕ → List BookRow → Result (List BookRow) Refusal
fitting n rows = cond (nat_le (length rows) n) (Ok rows) (Err (TooFewRows (length rows)))

unfoldable pub orders_of : Plain → Symbol → Side → ℕ → Result (List BookRow) Refusal
orders_of book symbol side n =
    cond (is_some (stock_of symbol book)) (fitting n (rows_of symbol side book.orders)) (Err NoStock)

-- how many rows an answer has, or its refusal
abbrev pub counted : Result (List BookRow) Refusal → Result ℕ Refusal
counted (Ok rows) = Ok (length rows)
counted (Err refusal) = Err refusal

-- lent rows with an answer at their front; a refusal leaves them
abbrev pub filled : Result (List BookRow) Refusal → List BookRow → List BookRow
filled (Ok rows) lent = rows ++ drop (length rows) lent
filled (Err refusal) lent = lent
