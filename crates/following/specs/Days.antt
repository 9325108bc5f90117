-- Days, whole runs, histories, and what belongs to a day.
use Rattle.std.specs.Prelude.{◌≡◌, ℕ, zero, suc, pred, max, List, [], ◌∷◌, Some, None, Ok, Err, Option, Result}
use Rattle.codes.specs.declared.cause.Cause.{Cause}
use Rattle.codes.specs.declared.refusal.Refusal.{Refusal}
use Rattle.wire.specs.Packets.{Sent, heartbeat, messages, packet_of}
use Rattle.wire.specs.Names.{Session}
use Rattle.source.specs.Meanings.{Meaning, numbered_from}
use Rattle.book.specs.Plain.{Plain, Slots, empty, ran}
use Rattle.following.specs.States.{Room, State, dark}
use Rattle.following.specs.Calls.{Call, start_at_one, start_by_snapshot, packet, snapshot, repair, Outcome, refused, accepted}
use Rattle.following.specs.Follower.{Snapshot, snapshot_of, last_of, outcome, moved}

-- a session's name, and the messages that the venue sent in it
pub record Day : Type 0 where
  pub session : Session
  pub messages : List (List ℕ)

-- they are numbered from 1 without a break
abbrev pub message_of : Day → ℕ → Option (List ℕ)
message_of day k = numbered_from 1 day.messages k

-- what becomes of the plain book that is fed a day's first messages: a book, a message that stops it with its number and
-- cause, or the day has fewer
pub data Run : Type 0 where
  reached : Plain → Run
  stops : ℕ → Cause → Run
  day_ended : Run

abbrev pub one_more : Run → (Plain → Run) → Run
one_more (reached book) next = next book
one_more (stops k cause) next = stops k cause
one_more day_ended next = day_ended

-- the message numbered k, if the day has one, runs on a book
abbrev pub come_to : ℕ → Result Plain Cause → Run
come_to k (Ok book) = reached book
come_to k (Err cause) = stops k cause

abbrev pub fed : Slots → ℕ → Option (List ℕ) → Plain → Run
fed slots k None book = day_ended
fed slots k (Some m) book = come_to k (ran slots book m)

-- the whole run: the plain book, empty at first, fed the day's messages 1 to n
unfoldable pub whole_run : Slots → Day → ℕ → Run
whole_run slots day zero = reached empty
whole_run slots day (suc n) = one_more (whole_run slots day n) (fed slots (suc n) (message_of day (suc n)))

-- each message is the day's of its number, the first numbered k
unfoldable pub Ours : Day → ℕ → List (List ℕ) → Type 0
Ours day k [] = Unit {0}
Ours day k (m ∷ ms) = (message_of day k ≡ Some m) × Ours day (suc k) ms

module _ (room : Room) where
  -- the state that a history leads to: any list of calls on one new follower, the latest first
  unfoldable pub after : List Call → State
  after [] = dark
  after (c ∷ history) = moved (outcome room (after history) c) (after history)

  -- an accepted start begins the list of accepted calls anew, and every other call joins it
  abbrev pub noted : Call → List Call → List Call
  noted start_at_one cs = []
  noted start_by_snapshot cs = []
  noted call cs = call ∷ cs

  -- a refused call leaves the list as it is
  abbrev pub noted_if : Outcome → Call → List Call → List Call
  noted_if (refused why) c cs = cs
  noted_if (accepted state reply) c cs = noted c cs

  -- the calls accepted since the last accepted start, the latest first; a stop is one of them
  unfoldable pub since : List Call → List Call
  since [] = []
  since (c ∷ history) = noted_if (outcome room (after history) c) c (since history)

  -- a snapshot by itself, whatever session a follower knows
  abbrev pub snapshot_alone : List ℕ → Result Snapshot Refusal
  snapshot_alone bytes = snapshot_of room None bytes

  -- the highest number that counts as heard by a packet or a snapshot: a heartbeat's own less 1, the last of data, and one
  -- less than a snapshot's End tells
  abbrev pub packet_top : Result Sent Refusal → ℕ
  packet_top (Ok (heartbeat next session)) = pred next
  packet_top (Ok (messages number ms)) = last_of number ms
  packet_top (Err why) = 0

  abbrev pub snapshot_top : Result Snapshot Refusal → ℕ
  snapshot_top (Ok snap) = pred snap.next
  snapshot_top (Err why) = 0

  abbrev pub top : Call → ℕ
  top (packet bytes) = packet_top (packet_of bytes)
  top (snapshot bytes) = snapshot_top (snapshot_alone bytes)
  top call = 0

  -- the highest number heard in some calls, from the calls alone
  unfoldable pub highest_in : List Call → ℕ
  highest_in [] = 0
  highest_in (c ∷ cs) = max (highest_in cs) (top c)

  -- a packet belongs to a day if each message is the day's of its number, and any session the day's
  abbrev pub PacketBelongs : Day → Result Sent Refusal → Type 0
  PacketBelongs day (Ok (heartbeat next session)) = session ≡ day.session
  PacketBelongs day (Ok (messages number ms)) = Ours day number ms
  PacketBelongs day (Err why) = Unit {0}

  -- a snapshot, if its session is the day's, and its book the plain book after the messages before its End's number
  abbrev pub SnapshotBelongs : Day → Result Snapshot Refusal → Type 0
  SnapshotBelongs day (Ok snap) =
      (snap.session ≡ day.session) × (whole_run room.for_book day (pred snap.next) ≡ reached snap.book)
  SnapshotBelongs day (Err why) = Unit {0}

  -- a source, if its session is the day's, and each message that it holds the day's of its number
  abbrev pub SourceBelongs : Day → Meaning → Type 0
  SourceBelongs day source =
      (source.session ≡ day.session) × ((k : ℕ) (m : List ℕ) → source.held k ≡ Some m → message_of day k ≡ Some m)

  abbrev pub Belongs : Day → Call → Type 0
  Belongs day (packet bytes) = PacketBelongs day (packet_of bytes)
  Belongs day (snapshot bytes) = SnapshotBelongs day (snapshot_alone bytes)
  Belongs day (repair source budget) = SourceBelongs day source
  Belongs day call = Unit {0}

  unfoldable pub AllBelong : Day → List Call → Type 0
  AllBelong day [] = Unit {0}
  AllBelong day (c ∷ cs) = Belongs day c × AllBelong day cs
