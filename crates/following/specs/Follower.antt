-- The plain follower: how each call comes out, from its bytes.
use Rattle.std.specs.Prelude.{ℕ, zero, suc, pred, ◌+◌, max, Bool, true, cond, ◌||◌, List, [], ◌∷◌, length, is_some, Some, None, Ok, Err, Option, Result, ◌==◌, nat_le, nat_lt}
use Rattle.codes.specs.declared.cause.Cause.{Cause}
use Rattle.codes.specs.declared.lamp.Lamp.{Lamp}
use Rattle.codes.specs.declared.lamp.Lamp.TheVariants as lamp
use Rattle.codes.specs.declared.refusal.Refusal.{Refusal}
use Rattle.codes.specs.declared.refusal.Refusal.TheVariants as refusal
use Rattle.wire.specs.Packets.{Sent, heartbeat, messages, packet_of}
use Rattle.wire.specs.Names.{Session}
use Rattle.session.specs.Sessions.{Opening, session_messages, opening}
use Rattle.session.specs.Carried.{carried}
use Rattle.source.specs.Meanings.{Meaning}
use Rattle.source.specs.Pairs.{same_session}
use Rattle.book.specs.Plain.{Plain, empty, ran}
use Rattle.book.specs.Runs.{run_there}
use Rattle.following.specs.States.{
  Room,
  Held,
  Wanting,
  Started,
  State,
  dark,
  red,
  started,
  begun,
  from_one,
  lamp_at,
  lamp_of,
  is_held,
  with_held,
  held_from,
}
use Rattle.following.specs.Calls.{
  Call,
  start_at_one,
  start_by_snapshot,
  stop,
  packet,
  snapshot,
  repair,
  show_lamp,
  ask,
  Question,
  done,
  counted,
  snapshot_taken,
  repaired,
  lamp_shown,
  Outcome,
  refused,
  accepted,
  answered,
  told,
}
use Rattle.following.specs.declared.answers.Counts.{Counts}
use Rattle.following.specs.declared.answers.Ending.{Ending}
use Rattle.following.specs.declared.answers.Ending.TheVariants as ending

-- where messages have led: to no book yet, to a book that wants a number, or to the message that stopped it;
-- the first two with what is held
pub data Place : Type 0 where
  bookless : List Held → Place
  wanting : Wanting → List Held → Place
  stopped : ℕ → Cause → Place

abbrev pub place_of : Option Wanting → List Held → Place
place_of None held = bookless held
place_of (Some b) held = wanting b held

-- a session agrees with the known one, or none is known
unfoldable pub agrees : Option Session → Session → Bool
agrees None session = true
agrees (Some known) session = same_session known session

-- the state at a place, with something heard
unfoldable pub settled : Option Session → ℕ → Place → State
settled session k (bookless held) =
    started (record { session = session; book = None; heard = true; highest = k; held = held })
settled session k (wanting b held) =
    started (record { session = session; book = Some b; heard = true; highest = k; held = held })
settled session k (stopped n cause) = red n cause

-- after a run of the message numbered k: on with the book, or stopped
abbrev pub going_on : ℕ → Result Plain Cause → (Plain → Place) → Place
going_on k (Ok book) on = on book
going_on k (Err cause) on = stopped k cause

-- what becomes of one message of a packet
pub data Fate : Type 0 where
  taken repeated dropped unread : Fate

abbrev pub count_one : Fate → Counts → Counts
count_one taken c = record { taken = suc c.taken; repeated = c.repeated; dropped = c.dropped; unread = c.unread }
count_one repeated c = record { taken = c.taken; repeated = suc c.repeated; dropped = c.dropped; unread = c.unread }
count_one dropped c = record { taken = c.taken; repeated = c.repeated; dropped = suc c.dropped; unread = c.unread }
count_one unread c = record { taken = c.taken; repeated = c.repeated; dropped = c.dropped; unread = suc c.unread }

abbrev pub no_counts : Counts
no_counts = record { taken = 0; repeated = 0; dropped = 0; unread = 0 }

-- a completed snapshot: its session, the number that its End tells, and its book
pub record Snapshot : Type 0 where
  pub session : Session
  pub next : ℕ
  pub book : Plain

-- a snapshot opens with the mode 1 or 2
abbrev pub of_mode : Option Opening → Option Opening
of_mode None = None
of_mode (Some o) = cond (o.number == 1 || o.number == 2) (Some o) None

-- its End completes it; without one it is cut, and a cause stops it
abbrev pub completed : Session → Result (Option ℕ × Plain) Cause → Result Snapshot Refusal
completed session (Ok (Some next, book)) = Ok (record { session = session; next = next; book = book })
completed session (Ok (None, book)) = Err refusal.SnapshotCut
completed session (Err cause) = Err (refusal.SnapshotStopped cause)

-- what a repair came to: where, how many messages it fetched, and how it ended
pub record Mended : Type 0 where
  pub place : Place
  pub fetched : ℕ
  pub ending : Ending

abbrev pub ends : Place → Ending → Mended
ends place how = record { place = place; fetched = 0; ending = how }

-- one message fetched, and then what came after it
abbrev pub fetched_one : Mended → Mended
fetched_one m = record { place = m.place; fetched = suc m.fetched; ending = m.ending }

abbrev pub fetching : Option (List ℕ) → Place → (List ℕ → Mended) → Mended
fetching None place on = ends place ending.NotHeld
fetching (Some message) place on = fetched_one (on message)

-- the number of the last message of a packet
abbrev pub last_of : ℕ → List (List ℕ) → ℕ
last_of number ms = pred (number + length ms)

module _ (room : Room) where
  -- held messages that are wanted run in turn; they ascend, and none is below the wanted number
  unfoldable pub run_held : Plain → ℕ → List Held → Place
  run_held book w [] = wanting (record { book = book; wanted = w }) []
  run_held book w (h ∷ held) =
      cond (h.number == w)
      (going_on w (ran room.for_book book h.bytes) (λ b. run_held b (suc w) held))
      (wanting (record { book = book; wanted = w }) (h ∷ held))

  -- the wanted message runs on the book, the wanted number grows by 1, and held messages follow
  unfoldable pub run_wanted : Wanting → List ℕ → List Held → Place
  run_wanted b message held =
      going_on b.wanted (ran room.for_book b.book message) (λ book. run_held book (suc b.wanted) held)

  -- a message that is not wanted yet: repeated if already held, held if a slot is free, else dropped
  abbrev pub kept : (List Held → Place) → List Held → ℕ → List ℕ → Fate × Place
  kept place held k message =
      cond (is_held k held) (repeated, place held)
      (cond (nat_lt (length held) room.for_held) (taken, place (with_held k message held)) (dropped, place held))

  -- one message of a packet, numbered k. What is held lies above the wanted number, so that this number is never held.
  unfoldable pub treated : Place → ℕ → List ℕ → Fate × Place
  treated (stopped n cause) k message = (unread, stopped n cause)
  treated (bookless held) k message = kept bookless held k message
  treated (wanting b held) k message =
      cond (nat_lt k b.wanted) (repeated, wanting b held)
      (cond (k == b.wanted) (taken, run_wanted b message held)
      (kept (wanting b) held k message))

  -- each message of a packet in turn, the first numbered k
  unfoldable pub place_after : Place → ℕ → List (List ℕ) → Place
  place_after place k [] = place
  place_after place k (m ∷ ms) = place_after (treated place k m).1 (suc k) ms

  unfoldable pub counts_of : Place → ℕ → List (List ℕ) → Counts
  counts_of place k [] = no_counts
  counts_of place k (m ∷ ms) = count_one (treated place k m).0 (counts_of (treated place k m).1 (suc k) ms)

  -- a packet: a heartbeat makes the session known and raises the highest number to its own less 1,
  -- data raise it to their last number
  abbrev pub on_packet : Started → Result Sent Refusal → Outcome
  on_packet s (Err why) = refused why
  on_packet s (Ok (heartbeat next session)) =
      cond (agrees s.session session)
      (accepted (settled (Some session) (max s.highest (pred next)) (place_of s.book s.held)) (counted no_counts))
      (refused refusal.OtherSession)
  on_packet s (Ok (messages number ms)) =
      accepted
      (settled s.session (max s.highest (last_of number ms)) (place_after (place_of s.book s.held) number ms))
      (counted (counts_of (place_of s.book s.held) number ms))

  -- a snapshot's messages run on the empty book
  abbrev pub opened : Option Session → Option Opening → Result Snapshot Refusal
  opened known None = Err refusal.NotOpened
  opened known (Some o) =
      cond (agrees known o.session)
      (completed o.session (run_there room.for_book (carried o.follow) empty))
      (Err refusal.OtherSession)

  unfoldable pub snapshot_of : Option Session → List ℕ → Result Snapshot Refusal
  snapshot_of known bytes = opened known (of_mode (opening (session_messages bytes)))

  -- a completed one: held messages below its number are let go, and those from it on run
  abbrev pub on_snapshot : Started → Result Snapshot Refusal → Outcome
  on_snapshot s (Err why) = refused why
  on_snapshot s (Ok snap) =
      accepted
      (settled (Some snap.session) (max s.highest (pred snap.next))
      (run_held snap.book snap.next (held_from snap.next s.held)))
      (snapshot_taken snap.next)

  -- a repair, with a budget and the highest number heard: it ends when red, green, at its budget, or where the source
  -- lacks the wanted message, and otherwise fetches that and runs it. Without a book a repair is refused before.
  unfoldable pub mended : (ℕ → Option (List ℕ)) → ℕ → ℕ → Place → Mended
  mended source k budget (stopped n cause) = ends (stopped n cause) ending.Red
  mended source k budget (bookless held) = ends (bookless held) ending.NotHeld
  mended source k zero (wanting b held) = ends (wanting b held) (cond (nat_le b.wanted k) ending.Budget ending.Green)
  mended source k (suc budget) (wanting b held) =
      cond (nat_le b.wanted k)
      (fetching (source b.wanted) (wanting b held) (λ message. mended source k budget (run_wanted b message held)))
      (ends (wanting b held) ending.Green)

  abbrev pub on_mended : Session → ℕ → Mended → Outcome
  on_mended session k m = accepted (settled (Some session) k m.place) (repaired m.fetched m.ending)

  abbrev pub unless_waiting : Lamp → Outcome → Outcome
  unless_waiting lamp.Waiting o = refused refusal.Waiting
  unless_waiting shown o = o

  abbrev pub on_repair : Started → Meaning → ℕ → Outcome
  on_repair s source budget =
      cond (agrees s.session source.session)
      (unless_waiting (lamp_at s.book s.heard s.highest)
      (on_mended source.session s.highest (mended source.held s.highest budget (place_of s.book s.held))))
      (refused refusal.OtherSession)

  -- a question is answered by the book while the lamp is green
  abbrev pub on_question : Lamp → Option Wanting → State → Question → Outcome
  on_question (lamp.Green w) (Some b) state q = told state (answered b.book q)
  on_question shown book state q = refused (refusal.NotGreen shown)

  unfoldable pub while_started : Started → Call → Outcome
  while_started s start_at_one = refused refusal.NotDark
  while_started s start_by_snapshot = refused refusal.NotDark
  while_started s stop = accepted dark done
  while_started s (packet bytes) = on_packet s (packet_of bytes)
  while_started s (snapshot bytes) = cond (is_some s.book) (refused refusal.HasBook) (on_snapshot s (snapshot_of s.session bytes))
  while_started s (repair source budget) = on_repair s source budget
  while_started s show_lamp = accepted (started s) (lamp_shown (lamp_of (started s)))
  while_started s (ask q) = on_question (lamp_at s.book s.heard s.highest) s.book (started s) q

  unfoldable pub while_dark : Call → Outcome
  while_dark start_at_one = accepted (begun from_one) done
  while_dark start_by_snapshot = accepted (begun None) done
  while_dark show_lamp = accepted dark (lamp_shown (lamp_of dark))
  while_dark call = refused refusal.Dark

  unfoldable pub while_red : ℕ → Cause → Call → Outcome
  while_red k cause start_at_one = refused refusal.NotDark
  while_red k cause start_by_snapshot = refused refusal.NotDark
  while_red k cause stop = accepted dark done
  while_red k cause show_lamp = accepted (red k cause) (lamp_shown (lamp_of (red k cause)))
  while_red k cause call = refused refusal.Red

  -- how a call comes out: the one definition of the follower
  unfoldable pub outcome : State → Call → Outcome
  outcome dark call = while_dark call
  outcome (red k cause) call = while_red k cause call
  outcome (started s) call = while_started s call

-- the state after a call
abbrev pub moved : Outcome → State → State
moved (refused why) state = state
moved (accepted next reply) state = next
