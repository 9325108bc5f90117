-- The known results of the rules, in one table: what goes in, and what must come out.
use Rattle.std.specs.Prelude.{◌≡◌, ℕ, List, [], ◌∷◌, ◌++◌, take, replicate, Some, None, Ok, Err, codes, Option, Result, slice_index}
use Prim.Native.String.{String}
use Rattle.codes.specs.Codes.{cause_letter, numbered, refusal_number}
use Rattle.codes.specs.declared.cause.Cause.{Cause}
use Rattle.codes.specs.declared.lamp.Lamp.TheVariants as lamp
use Rattle.wire.specs.Messages.{Said, feed_message}
use Rattle.dayfile.specs.Blocks.{check_of}
use Rattle.following.specs.States.{Room, lamp_of}
use Rattle.following.specs.Calls.{
  Call,
  start_at_one,
  start_by_snapshot,
  packet,
  snapshot,
  Outcome,
  refused,
  accepted,
}
use Rattle.following.specs.Follower.{outcome}
use Rattle.following.specs.Days.{after}
use Rattle.worked_histories.specs.Layouts.{
  message,
  seconds_message,
  add_message,
  end_message,
  data_packet,
  heartbeat_packet,
  session_bytes,
}
use Rattle.worked_histories.specs.Histories.{four_counts}

-- so many slots for held messages, and one for each table of the book
abbrev pub holding : ℕ → Room
holding slots = record { for_book = record { for_stocks = 1; for_orders = 1 }; for_held = slots }

-- the number of the refusal, if a call is refused
abbrev pub refusal_in : Outcome → Option ℕ
refusal_in (refused why) = Some (refusal_number (numbered why))
refusal_in (accepted state reply) = None

-- the letter of the cause, if a message has one
abbrev pub cause_in : Result Said Cause → Option ℕ
cause_in (Ok said) = None
cause_in (Err cause) = Some (cause_letter cause)

-- Histories have the latest call first, and begin on a new follower with so many slots for held messages.
pub data Row : Type 0 where
  -- a history, and the gap that the lamp then shows
  gap : ℕ → List Call → ℕ → ℕ → Row
  -- a history, and the number wanted under the green lamp
  green : ℕ → List Call → ℕ → Row
  -- a packet after a history, and how many of its messages are taken, with no others in it
  taken : ℕ → List ℕ → List Call → ℕ → Row
  -- a packet after a start at one, and the number of its refusal
  packet_met : List ℕ → Option ℕ → Row
  -- a message of the feed, and the letter of the cause that it shows by itself
  message_met : List ℕ → Option ℕ → Row
  -- a block of a day file, and its check
  block_check : List ℕ → ℕ → Row

-- what a row states
abbrev pub Stands : Row → Type 0
Stands (gap slots history w k) = lamp_of (after (holding slots) history) ≡ lamp.Gap w k
Stands (green slots history w) = lamp_of (after (holding slots) history) ≡ lamp.Green w
Stands (taken slots bytes history n) =
    outcome (holding slots) (after (holding slots) history) (packet bytes)
    ≡ accepted (after (holding slots) (packet bytes ∷ history)) (four_counts n 0 0 0)
Stands (packet_met bytes expected) =
    refusal_in (outcome (holding 1) (after (holding 1) (start_at_one ∷ [])) (packet bytes)) ≡ expected
Stands (message_met bytes expected) = cause_in (feed_message bytes) ≡ expected
Stands (block_check block n) = check_of block ≡ n

unfoldable pub AllStand : List Row → Type 0
AllStand [] = Unit {0}
AllStand (r ∷ rs) = Stands r × AllStand rs

abbrev pub venue : String
venue = "2010090300"

-- a packet of the venue with two messages, numbered 7383 and 7384: a second, and an order added
abbrev pub sample : List ℕ
sample =
    0x00 ∷ 0x00 ∷ 0x1c ∷ 0xd7 ∷ 0x00 ∷ 0x02
    ∷ 0x00 ∷ 0x05 ∷ 0x00 ∷ 0x01 ∷ 0x0b ∷ 0x75 ∷ 0x54
    ∷ 0x00 ∷ 0x1d ∷ 0x04 ∷ 0x97 ∷ 0xc0 ∷ 0x30 ∷ 0x41 ∷ 0x00 ∷ 0x00 ∷ 0x00 ∷ 0x16 ∷ 0x53 ∷ 0x00 ∷ 0x00 ∷ 0x03 ∷ 0xe8
    ∷ 0x32 ∷ 0x35 ∷ 0x33 ∷ 0x31 ∷ 0x20 ∷ 0x20 ∷ 0x00 ∷ 0x00 ∷ 0x00 ∷ 0x02 ∷ 0x54 ∷ 0x0b ∷ 0xe4 ∷ 0x00 ∷ 0x59 ∷ []

-- a packet of one message, of no kind that is read and so many bytes long
abbrev pub one_message : ℕ → List ℕ
one_message n = data_packet 1 (take n (message "Z" (replicate 80 0)) ∷ [])

-- an order added at a price
abbrev pub added_at : ℕ → List ℕ
added_at price = add_message 22 "S" 1000 "2531  " price

abbrev pub letter : String → ℕ
letter text = slice_index (codes text) 0

-- the messages 3685, 3686 and 3688 are held, and a snapshot comes whose End tells 3686
abbrev pub joined_late : List Call
joined_late =
    snapshot (session_bytes venue "         1" (end_message 3686 ∷ []))
    ∷ packet (data_packet 3688 (seconds_message ∷ []))
    ∷ packet (data_packet 3685 (seconds_message ∷ seconds_message ∷ []))
    ∷ start_by_snapshot ∷ []

abbrev pub table : List Row
table =
    -- a heartbeat's own number is not heard
    gap 1 (packet (heartbeat_packet 790 venue) ∷ start_at_one ∷ []) 1 789
    ∷ green 1 (packet (heartbeat_packet 1 venue) ∷ start_at_one ∷ []) 1
    -- far ahead, and held
    ∷ taken 2 sample (start_at_one ∷ []) 2
    ∷ gap 2 (packet sample ∷ start_at_one ∷ []) 1 7384
    -- the lengths of a message
    ∷ packet_met (one_message 4) (Some 6)
    ∷ packet_met (one_message 5) None
    ∷ packet_met (one_message 80) None
    ∷ packet_met (one_message 81) (Some 6)
    -- the last number that there can be
    ∷ packet_met (data_packet 2147483647 (seconds_message ∷ [])) None
    ∷ packet_met (data_packet 2147483647 (seconds_message ∷ seconds_message ∷ [])) (Some 5)
    -- the limits of a price
    ∷ message_met (added_at 0) (Some (letter "b"))
    ∷ message_met (added_at 1000000000000000) None
    ∷ message_met (added_at 1000000000000001) (Some (letter "b"))
    -- at an End of 3686 the held message 3686 runs
    ∷ gap 3 joined_late 3687 3688
    -- 510 times 255, less 65521
    ∷ block_check (replicate 509 0 ++ 255 ∷ 0 ∷ 0 ∷ []) 64529
    ∷ []

abbrev pub KnownResults : Type 0
KnownResults = AllStand table
