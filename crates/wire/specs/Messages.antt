-- What the bytes of one message say, or the first cause that they show by themselves.
use Rattle.std.specs.Prelude.{ℕ, cond, ◌&&◌, ◌||◌, List, length, Some, None, Ok, Err, Option, Result, ◌==◌, nat_le, nat_lt, slice_index}
use Rattle.std.specs.Option.{option_map, ok_or}
use Rattle.codes.specs.declared.cause.Cause.{Cause}
use Rattle.codes.specs.declared.cause.Cause.TheVariants.{Length, Field, InSnapshot}
use Rattle.codes.specs.declared.side.Side.{Side}
use Rattle.codes.specs.declared.event.EventCode.{EventCode}
use Rattle.codes.specs.declared.status.Status.{Status}
use Rattle.wire.specs.Names.{Symbol}
use Rattle.wire.specs.declared.order.OrderRow.{OrderRow}
use Rattle.wire.specs.declared.order.Order.{Order}
use Rattle.wire.specs.declared.message.Message.{Message}
use Rattle.wire.specs.declared.message.Message.TheVariants as message
use Rattle.wire.specs.declared.message.SnapshotMessage.{SnapshotMessage}
use Rattle.wire.specs.declared.message.SnapshotMessage.TheVariants as there
use Rattle.wire.specs.Numbers.{most32, be32, be64}
pub use Rattle.wire.specs.Fields.{part}
use Rattle.codes.specs.Codes.{side_of, event_of, status_of}
use Rattle.wire.specs.Names.{symbol_of}
use Rattle.wire.specs.Answers.{through}
use Rattle.wire.specs.Limits.{some_shares, in_range}

-- what a message of the feed says
pub data Said : Type 0 where
  second : Said
  event : EventCode → Said
  status : Symbol → Status → Said
  add : OrderRow → Said
  execute : ℕ → ℕ → Said
  cancel : ℕ → ℕ → Said
  other : Said

-- what a message of a snapshot says: what one of the feed says, or the End with the next number
pub data Told : Type 0 where
  said : Said → Told
  end : ℕ → Told

-- a row within the limits of an order
abbrev pub checked : OrderRow → Option OrderRow
checked row = cond (in_range row.reference row.shares row.price) (Some row) None

-- fields that must be as listed
abbrev pub listed : {X Y : Type 0} → (X → Y) → Option X → Result Y Cause
listed say o = ok_or (option_map say o) Field

-- the letter that decides the kind
abbrev pub letter_of : List ℕ → ℕ
letter_of m = slice_index m 4

-- a symbol's six bytes are there once the length is right
abbrev pub with_symbol : {Y : Type 0} → Option Symbol → (Symbol → Result Y Cause) → Result Y Cause
with_symbol None say = Err Length
with_symbol (Some symbol) say = say symbol

-- S: the event code at 5
abbrev pub event_at : List ℕ → Result Said Cause
event_at m = listed event (event_of (slice_index m 5))

-- H: the symbol at 5, the state at 11
abbrev pub status_at : List ℕ → Result Said Cause
status_at m = with_symbol (symbol_of (part 5 6 m)) (λ symbol. listed (status symbol) (status_of (slice_index m 11)))

-- A: the reference at 5, the side at 9, the shares at 10, the symbol at 14, the price at 20, Y at 28
abbrev pub row_at : Symbol → List ℕ → Side → Option OrderRow
row_at symbol m side =
    cond (slice_index m 28 == 89)
    (checked (record { reference = be32 m 5; side = side; shares = be32 m 10; symbol = symbol; price = be64 m 20 }))
    None

abbrev pub sided : Symbol → List ℕ → Option Side → Option OrderRow
sided symbol m None = None
sided symbol m (Some side) = row_at symbol m side

abbrev pub add_at : List ℕ → Result Said Cause
add_at m = with_symbol (symbol_of (part 14 6 m)) (λ symbol. listed add (sided symbol m (side_of (slice_index m 9))))

-- E and X: the reference at 5, the shares at 9
abbrev pub shares_off : List ℕ → Option (ℕ × ℕ)
shares_off m = cond (nat_le (be32 m 5) most32 && some_shares (be32 m 9)) (Some (be32 m 5, be32 m 9)) None

abbrev pub off_at : (ℕ → ℕ → Said) → List ℕ → Result Said Cause
off_at say m = listed (λ t. say t.0 t.1) (shares_off m)

-- G: the next number at 5
abbrev pub end_at : List ℕ → Result Told Cause
end_at m = cond (nat_le 1 (be32 m 5) && nat_le (be32 m 5) most32) (Ok (end (be32 m 5))) (Err Field)

-- a message whose length must be n
abbrev pub of_length : {X : Type 0} → ℕ → List ℕ → Result X Cause → Result X Cause
of_length n m fields = cond (length m == n) fields (Err Length)

-- by the letter: T, S, H, A, E, X, and any other; bytes that end before it have no kind's length
unfoldable pub feed_message : List ℕ → Result Said Cause
feed_message m =
    cond (nat_lt (length m) 5) (Err Length)
    (cond (letter_of m == 84) (of_length 5 m (Ok second))
    (cond (letter_of m == 83) (of_length 6 m (event_at m))
    (cond (letter_of m == 72) (of_length 13 m (status_at m))
    (cond (letter_of m == 65) (of_length 29 m (add_at m))
    (cond (letter_of m == 69) (of_length 22 m (off_at execute m))
    (cond (letter_of m == 88) (of_length 13 m (off_at cancel m))
    (Ok other)))))))

-- in a snapshot E and X have their own cause before any other, and G is the End
unfoldable pub snapshot_message : List ℕ → Result Told Cause
snapshot_message m =
    cond (nat_lt (length m) 5) (Err Length)
    (cond (letter_of m == 69 || letter_of m == 88) (Err InSnapshot)
    (cond (letter_of m == 71) (of_length 9 m (end_at m))
    (through said (feed_message m))))

-- an order without the proof that it is within the limits
abbrev pub row_of : Order → OrderRow
row_of o = o.row

-- what a message of the code says
abbrev pub saying : Message → Said
saying message.Second = second
saying (message.Event code) = event code
saying (message.StockStatus symbol state) = status symbol state
saying (message.Add order) = add (row_of order)
saying (message.Execute reference shares) = execute reference shares
saying (message.Cancel reference shares) = cancel reference shares
saying message.Other = other

abbrev pub telling : SnapshotMessage → Told
telling (there.Message m) = said (saying m)
telling (there.End next) = end next
