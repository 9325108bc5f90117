-- Further laws of the plain follower.
use Rattle.std.proofs.Common.{◌≡◌, ℕ, suc, ◌+◌, Bool, true, false, cond, List, [], ◌∷◌, ◌++◌, length, Some, None, Ok, Err, Result, sym, refl, ap, ◌∙◌, subst, arith}
use Rattle.codes.specs.declared.refusal.Refusal.{Refusal}
use Rattle.codes.specs.declared.refusal.Refusal.TheVariants as refusal
use Rattle.wire.specs.Packets.{Sent, heartbeat, messages, packet_of}
use Rattle.following.specs.States.{Room, Started, State, dark, red, started, begun, from_one, lamp_of}
use Rattle.following.specs.Calls.{
  Call,
  start_at_one,
  start_by_snapshot,
  stop,
  show_lamp,
  counted,
  lamp_shown,
  Outcome,
  refused,
  accepted,
}
use Rattle.following.specs.Follower.{Place, place_of, agrees, Fate, taken, count_one, no_counts, treated, counts_of, on_packet, while_started, while_dark, while_red, outcome, moved}
use Rattle.following.specs.Days.{after, since, highest_in}
use Rattle.following.specs.Law.{
  RefusalsChangeNothing,
  message_count,
  CountsAddUp,
  WantedBounded,
  StopsForget,
  LampIsShown,
  HighestHeard,
  IsCounted,
  Readable,
  PacketsAreTaken,
}
use Rattle.following.specs.declared.answers.Counts.{Counts}
use Rattle.following.proofs.Shapes.{Shape}
use Rattle.following.proofs.Standing.{Tidy, tidy}

pub refusals_change_nothing : RefusalsChangeNothing
unfolding after
refusals_change_nothing room history c why e = ap (λ o. moved o (after room history)) e

-- the four counts of a packet's messages
abbrev sum_of : Counts → ℕ
sum_of c = c.taken + c.repeated + c.dropped + c.unread

one_counted : (f : Fate) (c : Counts) → sum_of (count_one f c) ≡ suc (sum_of c)
one_counted taken c = omega arith
one_counted fate c = omega arith

counts_sum : (room : Room) (ms : List (List ℕ)) (p : Place) (k : ℕ) → sum_of (counts_of room p k ms) ≡ length ms
unfolding counts_of
counts_sum room [] p k = refl
counts_sum room (m ∷ ms) p k =
    one_counted (treated room p k m).0 (counts_of room (treated room p k m).1 (suc k) ms)
    ∙ ap suc (counts_sum room ms (treated room p k m).1 (suc k))

-- what an outcome counted
abbrev CountedTo : ℕ → Outcome → Type 0
CountedTo n o = (next : State) (c : Counts) → o ≡ accepted next (counted c) → sum_of c ≡ n

heartbeat_sum : (t : Bool) (after : State) → CountedTo 0 (cond t (accepted after (counted no_counts)) (refused refusal.OtherSession))
heartbeat_sum true after next c e = let same : no_counts ≡ c = cc in ap sum_of (sym same)
heartbeat_sum false after next c e = absurd cc

packet_sum : (room : Room) (s : Started) (r : Result Sent Refusal) → CountedTo (message_count r) (on_packet room s r)
packet_sum room s (Err why) next c e = absurd cc
packet_sum room s (Ok (heartbeat n session)) next c e = heartbeat_sum (agrees s.session session) _ next c e
packet_sum room s (Ok (messages number ms)) next c e =
    let same : counts_of room (place_of s.book s.held) number ms ≡ c = cc in
    ap sum_of (sym same) ∙ counts_sum room ms (place_of s.book s.held) number

pub counts_add_up : CountsAddUp
unfolding outcome while_started while_dark while_red
counts_add_up room dark next bytes c e = absurd cc
counts_add_up room (red k cause) next bytes c e = absurd cc
counts_add_up room (started s) next bytes c e = packet_sum room s (packet_of bytes) next c e

pub wanted_bounded : WantedBounded
wanted_bounded room history s b e f =
    let t : Tidy (highest_in room (since room history)) (started s) = subst (Tidy (highest_in room (since room history))) e (tidy room history) in
    let o : Shape s.highest (place_of (Some b) s.held) = subst (λ x. Shape s.highest (place_of x s.held)) f t.1 in
    o.0

-- a stop leads to the dark, from every state
stopped_dark : (room : Room) (s : State) → moved (outcome room s stop) s ≡ dark
unfolding outcome while_started while_dark while_red
stopped_dark room dark = refl
stopped_dark room (red k cause) = refl
stopped_dark room (started s) = refl

-- the same calls on the same state
pub same_later : (room : Room) (later h g : List Call) → after room h ≡ after room g → after room (later ++ h) ≡ after room (later ++ g)
unfolding after
same_later room [] h g e = e
same_later room (c ∷ later) h g e = ap (λ s. moved (outcome room s c) s) (same_later room later h g e)

-- what was forgotten, and the two beginnings
pub stops_forget : StopsForget
unfolding after outcome while_dark
stops_forget room later history =
    let e : after room (stop ∷ history) ≡ after room [] = stopped_dark room (after room history) in
    let one : after room (start_at_one ∷ stop ∷ history) ≡ begun from_one = ap (λ s. moved (outcome room s start_at_one) s) e in
    let none : after room (start_by_snapshot ∷ stop ∷ history) ≡ begun None = ap (λ s. moved (outcome room s start_by_snapshot) s) e in (
      same_later room later (start_at_one ∷ stop ∷ history) (start_at_one ∷ []) one,
      same_later room later (start_by_snapshot ∷ stop ∷ history) (start_by_snapshot ∷ []) none,
      e,
      one,
      none,
    )

pub shown_at : (room : Room) (s : State) → outcome room s show_lamp ≡ accepted s (lamp_shown (lamp_of s))
unfolding outcome while_started while_dark while_red
shown_at room dark = refl
shown_at room (red k cause) = refl
shown_at room (started s) = refl

pub lamp_is_shown : LampIsShown
lamp_is_shown room history = shown_at room (after room history)

pub highest_heard : HighestHeard
highest_heard room history s e = (subst (Tidy (highest_in room (since room history))) e (tidy room history)).0

heartbeat_taken : (t : Bool) (next : State) → t ≡ true → IsCounted (cond t (accepted next (counted no_counts)) (refused refusal.OtherSession))
heartbeat_taken true next e = (next, no_counts, refl)
heartbeat_taken false next e = absurd cc

packet_taken : (room : Room) (s : Started) (r : Result Sent Refusal) → Readable s.session r → IsCounted (on_packet room s r)
packet_taken room s (Err why) ok = absurd ok
packet_taken room s (Ok (messages number ms)) ok = (_, _, refl)
packet_taken room s (Ok (heartbeat next session)) ok = heartbeat_taken (agrees s.session session) _ ok

pub packets_are_taken : PacketsAreTaken
unfolding outcome while_started
packets_are_taken room s bytes ok = packet_taken room s (packet_of bytes) ok
