-- The plain book: its state, and what each message does to it.
use Rattle.std.specs.Prelude.{ℕ, ◌-◌, cond, List, [], length, is_some, Some, None, Ok, Err, Option, Result, ◌==◌, nat_lt}
use Rattle.codes.specs.declared.cause.Cause.{Cause}
use Rattle.codes.specs.declared.cause.Cause.TheVariants.{LiveReference, NoStock, NoOrder, TooManyShares, TableFull}
use Rattle.codes.specs.declared.event.EventCode.{EventCode}
use Rattle.codes.specs.declared.status.Status.{Status}
use Rattle.wire.specs.Answers.{through}
use Rattle.wire.specs.Messages.{Said, Told, feed_message, snapshot_message}
use Rattle.wire.specs.Messages as wire
use Rattle.wire.specs.declared.order.OrderRow.{OrderRow}
use Rattle.wire.specs.Names.{Symbol}
use Rattle.table.specs.Rows.{found, placed, without}
use Rattle.book.specs.declared.rows.Stock.{Stock}
use Rattle.book.specs.Keys.{reference_of, name_of, by_number, by_name}
use Rattle.book.specs.Stocks.{unheard, with_state}

-- how many stocks and how many orders there may be
pub record Slots : Type 0 where
  pub for_stocks : ℕ
  pub for_orders : ℕ

-- the stocks ascending by symbol, the live orders ascending by reference
pub record Plain : Type 0 where
  pub event : Option EventCode
  pub stocks : List Stock
  pub orders : List OrderRow

-- a book begins empty
abbrev pub empty : Plain
empty = record { event = None; stocks = []; orders = [] }

abbrev pub stock_of : Symbol → Plain → Option Stock
stock_of symbol book = found name_of by_name symbol.bytes book.stocks

abbrev pub order_of : ℕ → Plain → Option OrderRow
order_of reference book = found reference_of by_number reference book.orders

abbrev pub with_event : EventCode → Plain → Plain
with_event code book = record { event = Some code; stocks = book.stocks; orders = book.orders }

abbrev pub with_stock : Stock → Plain → Plain
with_stock stock book = record { event = book.event; stocks = placed name_of by_name stock book.stocks; orders = book.orders }

abbrev pub with_order : OrderRow → Plain → Plain
with_order order book = record { event = book.event; stocks = book.stocks; orders = placed reference_of by_number order book.orders }

abbrev pub without_order : ℕ → Plain → Plain
without_order reference book = record { event = book.event; stocks = book.stocks; orders = without reference_of by_number reference book.orders }

-- H: a symbol that is new needs a slot
abbrev pub told : Slots → Plain → Symbol → Status → Option Stock → Result Plain Cause
told slots book symbol state None =
    cond (nat_lt (length book.stocks) slots.for_stocks) (Ok (with_stock (with_state state (unheard symbol)) book)) (Err TableFull)
told slots book symbol state (Some stock) = Ok (with_stock (with_state state stock) book)

-- A: an order needs a slot
abbrev pub entered : Slots → Plain → OrderRow → Result Plain Cause
entered slots book order = cond (nat_lt (length book.orders) slots.for_orders) (Ok (with_order order book)) (Err TableFull)

-- its reference is not live, and its symbol has a stock
abbrev pub added : Slots → Plain → OrderRow → Result Plain Cause
added slots book order =
    cond (is_some (order_of order.reference book)) (Err LiveReference)
    (cond (is_some (stock_of order.symbol book)) (entered slots book order)
    (Err NoStock))

-- E, X: an order with n shares less
abbrev pub less : ℕ → OrderRow → OrderRow
less n order =
    record { reference = order.reference; side = order.side; shares = order.shares - n; symbol = order.symbol; price = order.price }

-- it leaves when none remain
abbrev pub taken_off : Plain → ℕ → OrderRow → Plain
taken_off book n order = cond (order.shares == n) (without_order order.reference book) (with_order (less n order) book)

-- the order that a message names has as many shares at least
abbrev pub reduced : Plain → ℕ → Option OrderRow → Result Plain Cause
reduced book n None = Err NoOrder
reduced book n (Some order) = cond (nat_lt order.shares n) (Err TooManyShares) (Ok (taken_off book n order))

-- what a message does, or the first cause that stops it
abbrev pub done : Slots → Plain → Said → Result Plain Cause
done slots book wire.second = Ok book
done slots book (wire.event code) = Ok (with_event code book)
done slots book (wire.status symbol state) = told slots book symbol state (stock_of symbol book)
done slots book (wire.add order) = added slots book order
done slots book (wire.execute reference n) = reduced book n (order_of reference book)
done slots book (wire.cancel reference n) = reduced book n (order_of reference book)
done slots book wire.other = Ok book

-- a run goes on from what is answered until a cause stops it
abbrev pub and_then : {X Y : Type 0} → Result X Cause → (X → Result Y Cause) → Result Y Cause
and_then (Ok x) next = next x
and_then (Err cause) next = Err cause

-- the bytes of one message, read and done
unfoldable pub ran : Slots → Plain → List ℕ → Result Plain Cause
ran slots book message = and_then (feed_message message) (done slots book)

-- in a snapshot a message may be the End, which tells the next number
abbrev pub going : Result Plain Cause → Result (Option ℕ × Plain) Cause
going = through (λ book. (None, book))

abbrev pub done_there : Slots → Plain → Told → Result (Option ℕ × Plain) Cause
done_there slots book (wire.said said) = going (done slots book said)
done_there slots book (wire.end next) = Ok (Some next, book)

abbrev pub done_there_if_read : Slots → Plain → Result Told Cause → Result (Option ℕ × Plain) Cause
done_there_if_read slots book told = and_then told (done_there slots book)

unfoldable pub ran_there : Slots → Plain → List ℕ → Result (Option ℕ × Plain) Cause
ran_there slots book message = done_there_if_read slots book (snapshot_message message)
