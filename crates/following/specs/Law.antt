-- The promise: what holds after every history, for every day to which all that was accepted since the last accepted start
-- belongs; and further laws, which need no day.
use Rattle.std.specs.Prelude.{◌≡◌, ℕ, zero, suc, ◌+◌, ◌-◌, ◌≤◌, true, false, cond, ◌⊎◌, List, [], ◌∷◌, ◌++◌, length, Some, None, Ok, Err, Option, Result, ◌≢◌}
use Rattle.codes.specs.declared.cause.Cause.{Cause}
use Rattle.codes.specs.declared.lamp.Lamp.TheVariants as lamp
use Rattle.codes.specs.declared.refusal.Refusal.{Refusal}
use Rattle.codes.specs.declared.refusal.Refusal.TheVariants as refusal
use Rattle.wire.specs.Packets.{Sent, heartbeat, messages, packet_of}
use Rattle.wire.specs.Names.{Session}
use Rattle.source.specs.Meanings.{Meaning}
use Rattle.book.specs.Plain.{Plain}
use Rattle.following.specs.States.{
  Room,
  Held,
  Wanting,
  Started,
  State,
  dark,
  red,
  started,
  begun,
  from_one,
  is_held,
  lamp_of,
}
use Rattle.following.specs.Calls.{Call, start_at_one, start_by_snapshot, stop, packet, repair, show_lamp, ask, Question, Reply, counted, repaired, lamp_shown, Outcome, refused, accepted, answered, told}
use Rattle.following.specs.Follower.{agrees, outcome}
use Rattle.following.specs.Days.{Day, reached, stops, whole_run, after, since, highest_in, AllBelong}
use Rattle.following.specs.declared.answers.Counts.{Counts}
use Rattle.following.specs.declared.answers.Ending.{Ending}
use Rattle.following.specs.declared.answers.Ending.TheVariants as ending

abbrev pub held_of : State → List Held
held_of dark = []
held_of (red k cause) = []
held_of (started s) = s.held

-- how many of the n numbers from w on are not held; up to k there are suc k - w
unfoldable pub missing : List Held → ℕ → ℕ → ℕ
missing held w zero = 0
missing held w (suc n) = cond (is_held w held) (missing held (suc w) n) (suc (missing held (suc w) n))

-- the source holds every number from w to k that is not held
abbrev pub Covers : Meaning → ℕ → ℕ → List Held → Type 0
Covers source w k held =
    (i : ℕ) → w ≤ i → i ≤ k → is_held i held ≡ false → (m : List ℕ) × (source.held i ≡ Some m)

module _ (room : Room) where
  -- green, wanting n: the highest number heard is n - 1, and every question comes out as the whole run after the day's
  -- first n - 1 messages answers or refuses it
  pub record Right (history : List Call) (day : Day) (n : ℕ) : Type 0 where
    pub last : n ≡ suc (highest_in room (since room history))
    pub book : Plain
    pub run : whole_run room.for_book day (highest_in room (since room history)) ≡ reached book
    pub asks : (q : Question) → outcome room (after room history) (ask q) ≡ told (after room history) (answered book q)

  -- a question is refused: by 1, 3 or 14
  abbrev pub Refuses : State → Question → Type 0
  Refuses state q =
      (outcome room state (ask q) ≡ refused refusal.Dark) ⊎ (outcome room state (ask q) ≡ refused refusal.Red)
      ⊎ (outcome room state (ask q) ≡ refused (refusal.NotGreen (lamp_of state)))

  -- a repair at a gap up to k with n numbers missing: it is not refused, and ends green, having fetched n messages, or red
  pub record Mends (state : State) (source : Meaning) (budget k n : ℕ) : Type 0 where
    pub next : State
    pub fetched : ℕ
    pub how : Ending
    pub answers : outcome room state (repair source budget) ≡ accepted next (repaired fetched how)
    pub ends :
        ((how ≡ ending.Green) × (fetched ≡ n) × (lamp_of next ≡ lamp.Green (suc k)))
        ⊎ ((how ≡ ending.Red) × ((i : ℕ) × (cause : Cause) × (next ≡ red i cause)))

  pub record Promise (history : List Call) (day : Day) : Type 0 where
    -- (a) no false green
    pub green_right : (n : ℕ) → lamp_of (after room history) ≡ lamp.Green n → Right history day n
    pub no_book : ((n : ℕ) → lamp_of (after room history) ≢ lamp.Green n) → (q : Question) → Refuses (after room history) q
    -- (b) no needless red
    pub red_right :
        (k : ℕ) (cause : Cause) → lamp_of (after room history) ≡ lamp.Red k cause
        → whole_run room.for_book day (length day.messages) ≡ stops k cause
    -- (c) never green is ruled out
    pub gap_mends :
        (w k : ℕ) → lamp_of (after room history) ≡ lamp.Gap w k
        → (source : Meaning) (budget : ℕ) → source.session ≡ day.session
        → Covers source w k (held_of (after room history))
        → missing (held_of (after room history)) w (suc k - w) ≤ budget
        → Mends (after room history) source budget k (missing (held_of (after room history)) w (suc k - w))

-- the law: for any numbers of slots, every history, and every day to which all that was accepted since the last accepted
-- start belongs
abbrev pub Law : Type 0
Law = (room : Room) (history : List Call) (day : Day) → AllBelong room day (since room history) → Promise room history day

-- a refused call changes nothing
abbrev pub RefusalsChangeNothing : Type 0
RefusalsChangeNothing =
    (room : Room) (history : List Call) (c : Call) (why : Refusal)
    → outcome room (after room history) c ≡ refused why → after room (c ∷ history) ≡ after room history

-- how many messages a packet has
abbrev pub message_count : Result Sent Refusal → ℕ
message_count (Ok (heartbeat next session)) = 0
message_count (Ok (messages number ms)) = length ms
message_count (Err why) = 0

-- every message of an accepted packet falls under one of the four counts
abbrev pub CountsAddUp : Type 0
CountsAddUp =
    (room : Room) (state next : State) (bytes : List ℕ) (c : Counts)
    → outcome room state (packet bytes) ≡ accepted next (counted c)
    → c.taken + c.repeated + c.dropped + c.unread ≡ message_count (packet_of bytes)

-- the wanted number is never more than one above the highest heard
abbrev pub WantedBounded : Type 0
WantedBounded =
    (room : Room) (history : List Call) (s : Started) (b : Wanting)
    → after room history ≡ started s → s.book ≡ Some b → b.wanted ≤ suc s.highest

-- a stop leads to the dark from everywhere and keeps nothing: a start after it begins anew, and the same calls then lead to
-- the same state as on a new follower
abbrev pub StopsForget : Type 0
StopsForget =
    (room : Room) (later history : List Call)
    → (after room (later ++ start_at_one ∷ stop ∷ history) ≡ after room (later ++ start_at_one ∷ []))
    × (after room (later ++ start_by_snapshot ∷ stop ∷ history) ≡ after room (later ++ start_by_snapshot ∷ []))
    × (after room (stop ∷ history) ≡ after room [])
    × (after room (start_at_one ∷ stop ∷ history) ≡ begun from_one)
    × (after room (start_by_snapshot ∷ stop ∷ history) ≡ begun None)

-- after every history the lamp is shown as it is, and to show it changes nothing
abbrev pub LampIsShown : Type 0
LampIsShown =
    (room : Room) (history : List Call)
    → outcome room (after room history) show_lamp ≡ accepted (after room history) (lamp_shown (lamp_of (after room history)))

-- the highest number heard is what the calls accepted since the last accepted start tell
abbrev pub HighestHeard : Type 0
HighestHeard =
    (room : Room) (history : List Call) (s : Started)
    → after room history ≡ started s → s.highest ≡ highest_in room (since room history)

-- an outcome is accepted, and answers counts
abbrev pub IsCounted : Outcome → Type 0
IsCounted o = (next : State) × (c : Counts) × (o ≡ accepted next (counted c))

-- a packet can be read, and any session that it tells agrees with the known one
abbrev pub Readable : Option Session → Result Sent Refusal → Type 0
Readable known (Ok (heartbeat next session)) = agrees known session ≡ true
Readable known (Ok (messages number ms)) = Unit {0}
Readable known (Err why) = ⊥

-- a started follower accepts every such packet
abbrev pub PacketsAreTaken : Type 0
PacketsAreTaken =
    (room : Room) (s : Started) (bytes : List ℕ)
    → Readable s.session (packet_of bytes) → IsCounted (outcome room (started s) (packet bytes))

-- what a repair answers is so of the state after it
pub record HonestRepair (source : Meaning) (budget : ℕ) (next : State) (fetched : ℕ) (how : Ending) : Type 0 where
  -- it fetched no more than its budget
  pub within : fetched ≤ budget
  -- ended green: the lamp is green
  pub green : how ≡ ending.Green → (w : ℕ) × (lamp_of next ≡ lamp.Green w)
  -- ended red: the follower is red, and it is so after no other end
  pub stopped : how ≡ ending.Red → (k : ℕ) × (cause : Cause) × (next ≡ red k cause)
  pub only_stopped : (k : ℕ) (cause : Cause) → next ≡ red k cause → how ≡ ending.Red
  -- ended with budget: the budget is used up, and the lamp shows a gap
  pub spent : how ≡ ending.Budget → (fetched ≡ budget) × ((w : ℕ) × (k : ℕ) × (lamp_of next ≡ lamp.Gap w k))
  -- ended with not held: the lamp shows a gap, and the source lacks the number that it wants
  pub lacking : how ≡ ending.NotHeld → (w : ℕ) × (k : ℕ) × (lamp_of next ≡ lamp.Gap w k) × (source.held w ≡ None)

-- so it is with every accepted repair, from any state
abbrev pub RepairsAreHonest : Type 0
RepairsAreHonest =
    (room : Room) (state next : State) (source : Meaning) (budget fetched : ℕ) (how : Ending)
    → outcome room state (repair source budget) ≡ accepted next (repaired fetched how)
    → HonestRepair source budget next fetched how

-- how many numbers are missing, from the wanted one to the highest heard
abbrev pub missing_at : Option Wanting → List Held → ℕ → ℕ
missing_at None held k = 0
missing_at (Some b) held k = missing held b.wanted (suc k - b.wanted)

-- none is missing without a book
abbrev pub missing_of : State → ℕ
missing_of dark = 0
missing_of (red k cause) = 0
missing_of (started s) = missing_at s.book s.held s.highest

-- a repair that does not end red fetched exactly as many messages as are missing no more
abbrev pub FetchesWhatIsMissing : Type 0
FetchesWhatIsMissing =
    (room : Room) (history : List Call) (next : State) (source : Meaning) (budget fetched : ℕ) (how : Ending)
    → outcome room (after room history) (repair source budget) ≡ accepted next (repaired fetched how)
    → (how ≢ ending.Red) → fetched + missing_of next ≡ missing_of (after room history)

-- the packet has a message numbered k
abbrev pub Carries : Result Sent Refusal → ℕ → Type 0
Carries (Ok (heartbeat next session)) k = ⊥
Carries (Ok (messages number ms)) k = (number ≤ k) × (suc k ≤ number + length ms)
Carries (Err why) k = ⊥

-- a book was stopped, or wants more than w
abbrev pub Beyond : ℕ → State → Type 0
Beyond w dark = ⊥
Beyond w (red k cause) = Unit {0}
Beyond w (started s) = (b : Wanting) × (s.book ≡ Some b) × (suc w ≤ b.wanted)

-- a started follower takes the message that its book wants from every packet that has it
abbrev pub WantedIsTaken : Type 0
WantedIsTaken =
    (room : Room) (s : Started) (b : Wanting) (bytes : List ℕ)
    → s.book ≡ Some b → Carries (packet_of bytes) b.wanted
    → (next : State) × (c : Counts) × (outcome room (started s) (packet bytes) ≡ accepted next (counted c)) × Beyond b.wanted next

-- a packet has a message dropped only where no slot is free after it
abbrev pub DropsOnlyWhenFull : Type 0
DropsOnlyWhenFull =
    (room : Room) (state next : State) (bytes : List ℕ) (c : Counts)
    → outcome room state (packet bytes) ≡ accepted next (counted c)
    → 1 ≤ c.dropped → room.for_held ≤ length (held_of next)

-- a call is a packet with a message numbered k
abbrev pub CallCarries : Call → ℕ → Type 0
CallCarries (packet bytes) k = Carries (packet_of bytes) k
CallCarries call k = ⊥

-- one of the calls is such a packet
unfoldable pub Carried : List Call → ℕ → Type 0
Carried [] k = ⊥
Carried (c ∷ cs) k = CallCarries c k ⊎ Carried cs k

-- how many messages an answer says were dropped
abbrev pub dropped_by : Reply → ℕ
dropped_by (counted c) = c.dropped
dropped_by reply = 0

-- a start counts anew
abbrev pub dropped_with : Call → ℕ → ℕ → ℕ
dropped_with start_at_one n before = 0
dropped_with start_by_snapshot n before = 0
dropped_with (packet bytes) n before = n + before
dropped_with call n before = before

abbrev pub dropped_if : Outcome → Call → ℕ → ℕ
dropped_if (refused why) c before = before
dropped_if (accepted state reply) c before = dropped_with c (dropped_by reply) before

-- how many messages were dropped since the last accepted start, for want of a slot
unfoldable pub dropped_since : Room → List Call → ℕ
dropped_since room [] = 0
dropped_since room (c ∷ history) = dropped_if (outcome room (after room history) c) c (dropped_since room history)

-- no needless gap: where there was room for all, so that none was dropped since the last accepted start, a gap never wants
-- a number that a packet accepted since then carried
abbrev pub NoNeedlessGap : Type 0
NoNeedlessGap =
    (room : Room) (history : List Call) (w k : ℕ)
    → dropped_since room history ≡ 0
    → lamp_of (after room history) ≡ lamp.Gap w k → Carried (since room history) w → ⊥
