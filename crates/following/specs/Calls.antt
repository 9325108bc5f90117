-- The calls on a follower, what they answer, and how they come out.
use Rattle.std.specs.Prelude.{ℕ, List, Some, None, Ok, Err, Option, Result}
use Rattle.codes.specs.declared.event.EventCode.{EventCode}
use Rattle.codes.specs.declared.lamp.Lamp.{Lamp}
use Rattle.codes.specs.declared.refusal.Refusal.{Refusal}
use Rattle.codes.specs.declared.refusal.Refusal.TheVariants as refusal
use Rattle.codes.specs.declared.short.ShortSell.{ShortSell}
use Rattle.codes.specs.declared.side.Side.{Side}
use Rattle.codes.specs.declared.trading.Trading.{Trading}
use Rattle.wire.specs.Answers.{through}
use Rattle.wire.specs.Names.{symbol_of}
use Rattle.wire.specs.Names.{Symbol}
use Rattle.source.specs.Meanings.{Meaning}
use Rattle.book.specs.Plain.{Plain}
use Rattle.book.specs.Questions.{event_in, states_of, orders_of}
use Rattle.book.specs.declared.rows.BookRow.{BookRow}
use Rattle.following.specs.States.{State}
use Rattle.following.specs.declared.answers.Counts.{Counts}
use Rattle.following.specs.declared.answers.Ending.{Ending}

-- the questions that read a book alone: the event code; the two states of a stock; a stock's orders on one side, into so
-- many lent rows. A stock is named by the bytes of its symbol.
pub data Question : Type 0 where
  event : Question
  states : List ℕ → Question
  orders : List ℕ → Side → ℕ → Question

-- packets and snapshots come as bytes; a repair brings a source's meaning and a budget
pub data Call : Type 0 where
  start_at_one : Call
  start_by_snapshot : Call
  stop : Call
  packet : List ℕ → Call
  snapshot : List ℕ → Call
  repair : Meaning → ℕ → Call
  show_lamp : Call
  ask : Question → Call

pub data Reply : Type 0 where
  done : Reply
  counted : Counts → Reply
  snapshot_taken : ℕ → Reply
  repaired : ℕ → Ending → Reply
  lamp_shown : Lamp → Reply
  event_is : Option EventCode → Reply
  states_are : Option Trading × Option ShortSell → Reply
  orders_are : List BookRow → Reply

-- a call is refused, which changes nothing, or accepted, with the state after it and its answer
pub data Outcome : Type 0 where
  refused : Refusal → Outcome
  accepted : State → Reply → Outcome

-- bytes that are no symbol have no stock
abbrev pub of_stock : {X : Type 0} → Option Symbol → (Symbol → Result X Refusal) → Result X Refusal
of_stock None answer = Err refusal.NoStock
of_stock (Some symbol) answer = answer symbol

-- what a book answers
unfoldable pub answered : Plain → Question → Result Reply Refusal
answered book event = Ok (event_is (event_in book))
answered book (states symbol) = through states_are (of_stock (symbol_of symbol) (states_of book))
answered book (orders symbol side rows) = through orders_are (of_stock (symbol_of symbol) (λ s. orders_of book s side rows))

-- a question leaves the state as it is
abbrev pub told : State → Result Reply Refusal → Outcome
told state (Ok reply) = accepted state reply
told state (Err why) = refused why
