-- What every call keeps holds after every history.
use Rattle.std.proofs.Common.{◌≡◌, ℕ, pred, ◌+◌, max, Bool, true, false, cond, List, [], ◌∷◌, is_some, Some, None, Ok, Err, Option, Result, refl}
use Rattle.codes.specs.declared.cause.Cause.{Cause}
use Rattle.codes.specs.declared.lamp.Lamp.{Lamp}
use Rattle.codes.specs.declared.lamp.Lamp.TheVariants as lamp
use Rattle.codes.specs.declared.refusal.Refusal.{Refusal}
use Rattle.codes.specs.declared.refusal.Refusal.TheVariants as refusal
use Rattle.wire.specs.Packets.{Sent, heartbeat, messages, packet_of}
use Rattle.wire.specs.Names.{Session}
use Rattle.source.specs.Meanings.{Meaning}
use Rattle.following.specs.States.{Room, Wanting, Started, State, dark, red, started, begun, from_one, lamp_at, held_from}
use Rattle.following.specs.Calls.{
  Call,
  start_at_one,
  start_by_snapshot,
  stop,
  packet,
  snapshot,
  repair,
  show_lamp,
  ask,
  Question,
  Reply,
  Outcome,
  refused,
  answered,
  told,
}
use Rattle.following.specs.Follower.{
  place_of,
  agrees,
  settled,
  Snapshot,
  last_of,
  run_held,
  place_after,
  counts_of,
  on_packet,
  snapshot_of,
  on_snapshot,
  mended,
  on_mended,
  unless_waiting,
  on_question,
  while_started,
  while_dark,
  while_red,
  outcome,
  moved,
}
use Rattle.following.specs.Days.{after, noted_if, since}
use Rattle.following.specs.Law.{dropped_if, dropped_since}

module _ (room : Room) where
  -- a property of a state, of the calls accepted since the last start and of how many messages were dropped in these,
  -- that each accepted call keeps
  pub record Kept (P : List Call → ℕ → State → Type 0) : Type 0 where
    pub at_dark : (cs : List Call) (n : ℕ) → P cs n dark
    pub at_one : P [] 0 (begun from_one)
    pub at_none : P [] 0 (begun None)
    pub by_lamp : (cs : List Call) (n : ℕ) (s : State) → P cs n s → P (show_lamp ∷ cs) n s
    pub by_question : (cs : List Call) (n : ℕ) (s : State) (q : Question) → P cs n s → P (ask q ∷ cs) n s
    pub by_heartbeat :
        (cs : List Call) (n : ℕ) (s : Started) (bytes : List ℕ) (next : ℕ) (session : Session) →
        packet_of bytes ≡ Ok (heartbeat next session) → P cs n (started s) →
        P (packet bytes ∷ cs) (0 + n) (settled (Some session) (max s.highest (pred next)) (place_of s.book s.held))
    pub by_data :
        (cs : List Call) (n : ℕ) (s : Started) (bytes : List ℕ) (number : ℕ) (ms : List (List ℕ)) →
        packet_of bytes ≡ Ok (messages number ms) → P cs n (started s) →
        P (packet bytes ∷ cs) ((counts_of room (place_of s.book s.held) number ms).dropped + n)
        (settled s.session (max s.highest (last_of number ms)) (place_after room (place_of s.book s.held) number ms))
    pub by_snapshot :
        (cs : List Call) (n : ℕ) (s : Started) (bytes : List ℕ) (snap : Snapshot) →
        s.book ≡ None → snapshot_of room s.session bytes ≡ Ok snap → P cs n (started s) →
        P (snapshot bytes ∷ cs) n
        (settled (Some snap.session) (max s.highest (pred snap.next))
        (run_held room snap.book snap.next (held_from snap.next s.held)))
    pub by_repair :
        (cs : List Call) (n : ℕ) (s : Started) (source : Meaning) (budget : ℕ) → P cs n (started s) →
        P (repair source budget ∷ cs) n
        (settled (Some source.session) s.highest
        (mended room source.held s.highest budget (place_of s.book s.held)).place)

  module _ (P : List Call → ℕ → State → Type 0) (k : Kept P) (cs : List Call) (n : ℕ) where
    -- what is to hold, given how a call came out
    abbrev Holds : Call → State → Outcome → Type 0
    Holds c s o = P (noted_if room o c cs) (dropped_if o c n) (moved o s)

    either_way : (t : Bool) (c : Call) (s : State) (o o' : Outcome) → Holds c s o → Holds c s o' → Holds c s (cond t o o')
    either_way true c s o o' a b = a
    either_way false c s o o' a b = b

    module _ (s : Started) (ih : P cs n (started s)) where
      packet_holds : (bytes : List ℕ) (r : Result Sent Refusal) → packet_of bytes ≡ r → Holds (packet bytes) (started s) (on_packet room s r)
      packet_holds bytes (Err why) e = ih
      packet_holds bytes (Ok (heartbeat next session)) e =
          either_way (agrees s.session session) (packet bytes) (started s) _ _ (k.by_heartbeat cs n s bytes next session e ih) ih
      packet_holds bytes (Ok (messages number ms)) e = k.by_data cs n s bytes number ms e ih

      snapshot_holds :
          (bytes : List ℕ) (r : Result Snapshot Refusal) → s.book ≡ None → snapshot_of room s.session bytes ≡ r →
          Holds (snapshot bytes) (started s) (on_snapshot room s r)
      snapshot_holds bytes (Err why) b e = ih
      snapshot_holds bytes (Ok snap) b e = k.by_snapshot cs n s bytes snap b e ih

      without_book :
          (bytes : List ℕ) (b : Option Wanting) → s.book ≡ b →
          Holds (snapshot bytes) (started s) (cond (is_some b) (refused refusal.HasBook) (on_snapshot room s (snapshot_of room s.session bytes)))
      without_book bytes None e = snapshot_holds bytes (snapshot_of room s.session bytes) e refl
      without_book bytes (Some b) e = ih

      repair_holds :
          (source : Meaning) (budget : ℕ) (l : Lamp) →
          Holds (repair source budget) (started s)
          (unless_waiting room l
          (on_mended room source.session s.highest (mended room source.held s.highest budget (place_of s.book s.held))))
      repair_holds source budget lamp.Waiting = ih
      repair_holds source budget shown = k.by_repair cs n s source budget ih

      told_holds : (q : Question) (r : Result Reply Refusal) → Holds (ask q) (started s) (told (started s) r)
      told_holds q (Ok reply) = k.by_question cs n (started s) q ih
      told_holds q (Err why) = ih

      question_holds : (q : Question) (l : Lamp) (b : Option Wanting) → Holds (ask q) (started s) (on_question room l b (started s) q)
      question_holds q (lamp.Green w) (Some b) = told_holds q (answered b.book q)
      question_holds q shown b = ih

      started_holds : (c : Call) → Holds c (started s) (while_started room s c)
      unfolding while_started
      started_holds start_at_one = ih
      started_holds start_by_snapshot = ih
      started_holds stop = k.at_dark (stop ∷ cs) n
      started_holds (packet bytes) = packet_holds bytes (packet_of bytes) refl
      started_holds (snapshot bytes) = without_book bytes s.book refl
      started_holds (repair source budget) =
          either_way (agrees s.session source.session) (repair source budget) (started s) _ _
          (repair_holds source budget (lamp_at s.book s.heard s.highest)) ih
      started_holds show_lamp = k.by_lamp cs n (started s) ih
      started_holds (ask q) = question_holds q (lamp_at s.book s.heard s.highest) s.book

    dark_holds : (c : Call) → Holds c dark (while_dark room c)
    unfolding while_dark
    dark_holds start_at_one = k.at_one
    dark_holds start_by_snapshot = k.at_none
    dark_holds show_lamp = k.at_dark (show_lamp ∷ cs) n
    dark_holds call = k.at_dark cs n

    red_holds : (i : ℕ) (cause : Cause) → P cs n (red i cause) → (c : Call) → Holds c (red i cause) (while_red room i cause c)
    unfolding while_red
    red_holds i cause ih stop = k.at_dark (stop ∷ cs) n
    red_holds i cause ih show_lamp = k.by_lamp cs n (red i cause) ih
    red_holds i cause ih call = ih

    call_holds : (s : State) → P cs n s → (c : Call) → Holds c s (outcome room s c)
    unfolding outcome
    call_holds dark ih c = dark_holds c
    call_holds (red i cause) ih c = red_holds i cause ih c
    call_holds (started s) ih c = started_holds s ih c

  pub always : (P : List Call → ℕ → State → Type 0) → Kept P → (history : List Call) → P (since room history) (dropped_since room history) (after room history)
  unfolding since after dropped_since
  always P k [] = k.at_dark [] 0
  always P k (c ∷ history) = call_holds P k (since room history) (dropped_since room history) (after room history) (always P k history) c
