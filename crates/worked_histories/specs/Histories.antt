-- Worked histories of the plain follower over bytes that a venue could send, the latest call first: what the lamp shows,
-- what the calls answer, and a day to which everything accepted belongs.
use Rattle.std.specs.Prelude.{◌≡◌, ℕ, List, [], ◌∷◌, ◌++◌, length, Some, codes}
use Prim.Native.String.{String}
use Rattle.codes.specs.declared.cause.Cause.TheVariants as cause
use Rattle.codes.specs.declared.event.EventCode.TheVariants as event-code
use Rattle.codes.specs.declared.lamp.Lamp.{Lamp}
use Rattle.codes.specs.declared.lamp.Lamp.TheVariants as lamp
use Rattle.codes.specs.declared.refusal.Refusal.{Refusal}
use Rattle.codes.specs.declared.refusal.Refusal.TheVariants as refusal
use Rattle.codes.specs.declared.short.ShortSell.TheVariants as short
use Rattle.codes.specs.declared.side.Side.TheVariants as side
use Rattle.codes.specs.declared.trading.Trading.TheVariants as trading
use Rattle.wire.specs.Names.{Session}
use Rattle.source.specs.Meanings.{Meaning, numbered_from}
use Rattle.source.specs.Pairs.{paired}
use Rattle.book.specs.declared.rows.BookRow.{BookRow}
use Rattle.following.specs.States.{Room, lamp_of}
use Rattle.following.specs.Calls.{
  Call,
  start_at_one,
  start_by_snapshot,
  stop,
  packet,
  snapshot,
  repair,
  show_lamp,
  ask,
  event,
  states,
  orders,
  Reply,
  counted,
  snapshot_taken,
  repaired,
  lamp_shown,
  event_is,
  states_are,
  orders_are,
  refused,
  accepted,
}
use Rattle.following.specs.Follower.{outcome}
use Rattle.following.specs.Days.{Day, stops, whole_run, after, since, AllBelong}
use Rattle.following.specs.Law.{held_of, missing}
use Rattle.following.specs.declared.answers.Ending.TheVariants as ending
use Rattle.worked_histories.specs.Layouts.{
  seconds_message,
  event_message,
  status_message,
  add_message,
  execute_message,
  cancel_message,
  end_message,
  data_packet,
  heartbeat_packet,
  session_bytes,
}

-- slots for two stocks, four orders and four held messages
abbrev pub room : Room
room = record { for_book = record { for_stocks = 2; for_orders = 4 }; for_held = 4 }

abbrev pub named : String → Session
named text = record { bytes = codes text }

abbrev pub row : ℕ → ℕ → ℕ → BookRow
row reference shares price = record { reference = reference; shares = shares; price = price }

abbrev pub four_counts : ℕ → ℕ → ℕ → ℕ → Reply
four_counts taken repeated dropped unread =
    counted (record { taken = taken; repeated = repeated; dropped = dropped; unread = unread })

-- after a history, the lamp shows this
abbrev pub Shows : List Call → Lamp → Type 0
Shows history l = lamp_of (after room history) ≡ l

-- the latest call of a history was accepted with this answer
abbrev pub Answered : Call → List Call → Reply → Type 0
Answered c history reply = outcome room (after room history) c ≡ accepted (after room (c ∷ history)) reply

-- it was refused
abbrev pub Refused : Call → List Call → Refusal → Type 0
Refused c history why = outcome room (after room history) c ≡ refused why

-- everything accepted since the last accepted start belongs to a day
abbrev pub BelongsTo : Day → List Call → Type 0
BelongsTo day history = AllBelong room day (since room history)

-- a trading day of one stock: eight messages
abbrev pub stock : String
stock = "7203  "

abbrev pub m1 : List ℕ
m1 = seconds_message

abbrev pub m2 : List ℕ
m2 = event_message "S"

abbrev pub m3 : List ℕ
m3 = status_message stock "T"

abbrev pub m4 : List ℕ
m4 = add_message 11 "B" 300 stock 24500000000

abbrev pub m5 : List ℕ
m5 = add_message 12 "B" 200 stock 24490000000

abbrev pub m6 : List ℕ
m6 = execute_message 11 100

abbrev pub m7 : List ℕ
m7 = status_message stock "A"

abbrev pub m8 : List ℕ
m8 = cancel_message 12 200

abbrev pub trading_day : Day
trading_day = record { session = named "SESSION  7"; messages = m1 ∷ m2 ∷ m3 ∷ m4 ∷ m5 ∷ m6 ∷ m7 ∷ m8 ∷ [] }

-- A late join by snapshot. Messages 4 to 7 are held when a snapshot comes whose End tells 5: message 4 is let go, and
-- 5, 6 and 7 run on the snapshot's book.
abbrev pub joining : List Call
joining = packet (data_packet 6 (m6 ∷ m7 ∷ [])) ∷ packet (data_packet 4 (m4 ∷ m5 ∷ [])) ∷ start_by_snapshot ∷ []

abbrev pub snapshot_of_four : List ℕ
snapshot_of_four = session_bytes "SESSION  7" "         1" (m2 ∷ m3 ∷ m4 ∷ end_message 5 ∷ [])

abbrev pub joined : List Call
joined = snapshot snapshot_of_four ∷ joining

abbrev pub LateJoin : Type 0
LateJoin =
    -- nothing was heard yet
    Shows (start_by_snapshot ∷ []) lamp.Waiting
    × Answered show_lamp (start_by_snapshot ∷ []) (lamp_shown lamp.Waiting)
    -- the packets are held
    × Answered (packet (data_packet 6 (m6 ∷ m7 ∷ []))) (packet (data_packet 4 (m4 ∷ m5 ∷ [])) ∷ start_by_snapshot ∷ []) (four_counts 2 0 0 0)
    × (length (held_of (after room joining)) ≡ 4)
    × Shows joining lamp.Waiting
    -- a snapshot of mode 0 is not taken
    × Refused
    (snapshot (session_bytes "SESSION  7" "         0" (m2 ∷ m3 ∷ end_message 5 ∷ [])))
    joining
    refusal.NotOpened
    -- the snapshot turns the lamp green
    × Answered (snapshot snapshot_of_four) joining (snapshot_taken 5)
    × Shows joined (lamp.Green 8)
    × Answered show_lamp joined (lamp_shown (lamp.Green 8))
    × (held_of (after room joined) ≡ [])
    -- the questions answer
    × Answered (ask event) joined (event_is (Some event-code.StartOfTrading))
    × Answered (ask (states (codes stock))) joined (states_are (Some trading.Open, Some short.Active))
    × Answered (ask (orders (codes stock) side.Buy 2)) joined (orders_are (row 11 200 24500000000 ∷ row 12 200 24490000000 ∷ []))
    × Answered (ask (orders (codes stock) side.Sell 0)) joined (orders_are [])
    × Refused (ask (orders (codes stock) side.Buy 1)) joined (refusal.TooFewRows 2)
    × Refused (ask (states (codes "9984  "))) joined refusal.NoStock
    -- all of it belongs to the day
    × BelongsTo trading_day joined

-- A loss repaired from a pair. Message 4 is lost: 5 is held, and the lamp shows a gap. The first source lacks message 4,
-- and alone it does not help; the pair with a second one of the same session has it.
abbrev pub first_source : Meaning
first_source = record { session = named "SESSION  7"; held = numbered_from 1 (m1 ∷ m2 ∷ m3 ∷ []) }

abbrev pub second_source : Meaning
second_source = record { session = named "SESSION  7"; held = numbered_from 4 (m4 ∷ []) }

abbrev pub pair : Meaning
pair = paired first_source second_source

abbrev pub lossy : List Call
lossy = packet (data_packet 5 (m5 ∷ [])) ∷ packet (data_packet 1 (m1 ∷ m2 ∷ m3 ∷ [])) ∷ start_at_one ∷ []

abbrev pub tried : List Call
tried = repair pair 0 ∷ repair first_source 9 ∷ lossy

abbrev pub mended : List Call
mended = repair pair 1 ∷ tried

abbrev pub LossRepaired : Type 0
LossRepaired =
    -- the empty book is there, and nothing was heard yet
    Shows (start_at_one ∷ []) lamp.Waiting
    × Answered show_lamp (start_at_one ∷ []) (lamp_shown lamp.Waiting)
    × Refused (ask event) (start_at_one ∷ []) (refusal.NotGreen lamp.Waiting)
    × Answered (packet (data_packet 1 (m1 ∷ m2 ∷ m3 ∷ []))) (start_at_one ∷ []) (four_counts 3 0 0 0)
    × Shows (packet (data_packet 1 (m1 ∷ m2 ∷ m3 ∷ [])) ∷ start_at_one ∷ []) (lamp.Green 4)
    × Answered (packet (data_packet 5 (m5 ∷ []))) (packet (data_packet 1 (m1 ∷ m2 ∷ m3 ∷ [])) ∷ start_at_one ∷ []) (four_counts 1 0 0 0)
    × Shows lossy (lamp.Gap 4 5)
    × Answered show_lamp lossy (lamp_shown (lamp.Gap 4 5))
    × (missing (held_of (after room lossy)) 4 2 ≡ 1)
    × Refused (ask event) lossy (refusal.NotGreen (lamp.Gap 4 5))
    -- without the message, or without a budget, nothing is fetched
    × Answered (repair first_source 9) lossy (repaired 0 ending.NotHeld)
    × Answered (repair pair 0) (repair first_source 9 ∷ lossy) (repaired 0 ending.Budget)
    × Shows tried (lamp.Gap 4 5)
    -- one message is fetched, and the held one runs behind it
    × Answered (repair pair 1) tried (repaired 1 ending.Green)
    × Shows mended (lamp.Green 6)
    × Answered show_lamp mended (lamp_shown (lamp.Green 6))
    × Answered (ask (orders (codes stock) side.Buy 2)) mended (orders_are (row 11 300 24500000000 ∷ row 12 200 24490000000 ∷ []))
    × BelongsTo trading_day mended

-- A red. An order is added for a symbol that has no stock: the book stops at its number, and so does the whole run.
abbrev pub stopping : List ℕ
stopping = add_message 11 "S" 100 "9984  " 80000000000

abbrev pub bad_day : Day
bad_day = record { session = named "SESSION  8"; messages = seconds_message ∷ stopping ∷ seconds_message ∷ [] }

abbrev pub stopped_at_two : List Call
stopped_at_two = packet (data_packet 1 (seconds_message ∷ stopping ∷ seconds_message ∷ [])) ∷ start_at_one ∷ []

-- the same message, held when the one before it comes
abbrev pub stopped_when_held : List Call
stopped_when_held = packet (data_packet 1 (seconds_message ∷ [])) ∷ packet (data_packet 2 (stopping ∷ seconds_message ∷ [])) ∷ start_at_one ∷ []

abbrev pub RedNeeded : Type 0
RedNeeded =
    Answered (packet (data_packet 1 (seconds_message ∷ stopping ∷ seconds_message ∷ []))) (start_at_one ∷ []) (four_counts 2 0 0 1)
    × Shows stopped_at_two (lamp.Red 2 cause.NoStock)
    × Shows stopped_when_held (lamp.Red 2 cause.NoStock)
    × (whole_run room.for_book bad_day (length bad_day.messages) ≡ stops 2 cause.NoStock)
    -- no book is shown, and only a stop helps
    × Refused (ask event) stopped_at_two refusal.Red
    × Refused (packet (data_packet 4 (seconds_message ∷ []))) stopped_at_two refusal.Red
    × Refused start_at_one stopped_at_two refusal.NotDark
    × Answered show_lamp stopped_at_two (lamp_shown (lamp.Red 2 cause.NoStock))
    × Shows (stop ∷ stopped_at_two) lamp.Dark
    × BelongsTo bad_day stopped_at_two
    × BelongsTo bad_day stopped_when_held

-- A foreign session. A heartbeat makes a session known; a heartbeat and a repair that bring another one are refused, and
-- change nothing.
abbrev pub foreign_source : Meaning
foreign_source = record { session = named "SESSION  8"; held = numbered_from 1 (seconds_message ∷ seconds_message ∷ []) }

abbrev pub knowing : List Call
knowing = packet (heartbeat_packet 3 "SESSION  7") ∷ start_at_one ∷ []

abbrev pub disturbed : List Call
disturbed = repair foreign_source 9 ∷ packet (heartbeat_packet 9 "SESSION  8") ∷ knowing

abbrev pub ForeignRefused : Type 0
ForeignRefused =
    -- a heartbeat's own number is not heard
    Shows (packet (heartbeat_packet 1 "SESSION  7") ∷ start_at_one ∷ []) (lamp.Green 1)
    × Answered (packet (heartbeat_packet 3 "SESSION  7")) (start_at_one ∷ []) (four_counts 0 0 0 0)
    × Shows knowing (lamp.Gap 1 2)
    × Refused (packet (heartbeat_packet 9 "SESSION  8")) knowing refusal.OtherSession
    × Refused (repair foreign_source 9) (packet (heartbeat_packet 9 "SESSION  8") ∷ knowing) refusal.OtherSession
    × (after room disturbed ≡ after room knowing)
    -- a source of the known session mends the gap
    × Answered (repair first_source 9) disturbed (repaired 2 ending.Green)
    × Shows (repair first_source 9 ∷ disturbed) (lamp.Green 3)
    × BelongsTo trading_day (repair first_source 9 ∷ disturbed)

-- Two stops before the lamp is green. What came before the last start, of another session and with other messages held,
-- is forgotten: the follower is where a new one would be.
abbrev pub given_up : List Call
given_up =
    stop ∷ packet (data_packet 4 (m7 ∷ [])) ∷ packet (heartbeat_packet 9 "SESSION  8") ∷ start_by_snapshot
    ∷ stop ∷ packet (data_packet 2 (stopping ∷ [])) ∷ packet (heartbeat_packet 3 "SESSION  8") ∷ start_at_one ∷ []

abbrev pub began_again : List Call
began_again = packet (data_packet 1 (m1 ∷ m2 ∷ m3 ∷ [])) ∷ packet (heartbeat_packet 4 "SESSION  7") ∷ start_at_one ∷ []

abbrev pub StopsBeforeGreen : Type 0
StopsBeforeGreen =
    Shows (packet (data_packet 2 (stopping ∷ [])) ∷ packet (heartbeat_packet 3 "SESSION  8") ∷ start_at_one ∷ []) (lamp.Gap 1 2)
    × Shows
    (packet (data_packet 4 (m7 ∷ [])) ∷ packet (heartbeat_packet 9 "SESSION  8") ∷ start_by_snapshot ∷ [])
    lamp.Waiting
    × Shows given_up lamp.Dark
    × Shows (began_again ++ given_up) (lamp.Green 4)
    × (after room (began_again ++ given_up) ≡ after room began_again)
    × Answered (ask event) (began_again ++ given_up) (event_is (Some event-code.StartOfTrading))
    × BelongsTo trading_day (began_again ++ given_up)

-- Every message under its count. What comes twice is repeated, whether it ran or is held; with all slots for held
-- messages in use, one more is dropped, and is taken when it comes again.
abbrev pub twice : List Call
twice = packet (data_packet 2 (m2 ∷ [])) ∷ packet (data_packet 1 (m1 ∷ m2 ∷ [])) ∷ start_at_one ∷ []

abbrev pub full : List Call
full = packet (data_packet 4 (m4 ∷ m5 ∷ m6 ∷ m7 ∷ [])) ∷ twice

abbrev pub overfull : List Call
overfull = packet (data_packet 7 (m7 ∷ m8 ∷ [])) ∷ full

abbrev pub caught_up : List Call
caught_up = packet (data_packet 3 (m3 ∷ [])) ∷ overfull

abbrev pub RepeatsAndDrops : Type 0
RepeatsAndDrops =
    Answered (packet (data_packet 2 (m2 ∷ []))) (packet (data_packet 1 (m1 ∷ m2 ∷ [])) ∷ start_at_one ∷ []) (four_counts 0 1 0 0)
    × Answered (packet (data_packet 4 (m4 ∷ m5 ∷ m6 ∷ m7 ∷ []))) twice (four_counts 4 0 0 0)
    × Answered (packet (data_packet 7 (m7 ∷ m8 ∷ []))) full (four_counts 0 1 1 0)
    × Shows overfull (lamp.Gap 3 8)
    × Answered (packet (data_packet 3 (m3 ∷ []))) overfull (four_counts 1 0 0 0)
    × Shows caught_up (lamp.Gap 8 8)
    × Answered (packet (data_packet 8 (m8 ∷ []))) caught_up (four_counts 1 0 0 0)
    × Shows (packet (data_packet 8 (m8 ∷ [])) ∷ caught_up) (lamp.Green 9)
    × Answered (ask (orders (codes stock) side.Buy 1)) (packet (data_packet 8 (m8 ∷ [])) ∷ caught_up) (orders_are (row 11 200 24500000000 ∷ []))
    × BelongsTo trading_day (packet (data_packet 8 (m8 ∷ [])) ∷ caught_up)
