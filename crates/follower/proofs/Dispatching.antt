-- Each call at each state: how it comes out, and what it leaves of the lent rows and of its source.
use Rattle.std.proofs.Common.{◌≡◌, ℕ, Bool, true, false, cond, List, length, is_some, Some, Ok, Err, Option, Result, sym, refl, ap, ◌∙◌, subst}
use Rattle.codes.specs.declared.cause.Cause.{Cause}
use Rattle.codes.specs.declared.lamp.Lamp.{Lamp}
use Rattle.codes.specs.declared.lamp.Lamp.TheVariants as lamp
use Rattle.codes.specs.declared.refusal.Refusal.{Refusal}
use Rattle.wire.specs.Packets.{Sent, heartbeat, messages, packet_of}
use Rattle.source.specs.Meanings.{Meaning}
use Rattle.book.specs.declared.rows.BookRow.{BookRow}
use Rattle.following.specs.States.{Room, Wanting, Started, State, dark, red, started, lamp_at, lamp_of}
use Rattle.following.specs.Calls.{
  start_at_one,
  start_by_snapshot,
  stop,
  packet,
  snapshot,
  repair,
  show_lamp,
  ask,
  Outcome,
  refused,
  accepted,
  lamp_shown,
  told,
  answered,
}
use Rattle.following.specs.Calls as calls
use Rattle.following.specs.Follower.{Snapshot, agrees, on_packet, snapshot_of, on_snapshot, unless_waiting, on_question, while_dark, while_red, while_started, outcome, moved}
use Rattle.following.proofs.Further.{shown_at}
use Rattle.follower.specs.declared.call.Answer.{Answer}
use Rattle.follower.specs.declared.call.Answer.TheVariants as answer
use Rattle.follower.specs.declared.call.Call.{Call}
use Rattle.follower.specs.declared.call.Call.TheVariants as call
use Rattle.follower.specs.declared.follower.Follower.{Follower}
use Rattle.follower.specs.declared.call.Question.{Question}
use Rattle.follower.specs.Model.{model, slots_of, question_of, call_of, answer_of, rows_after, CameOut}
use Rattle.follower.proofs.Outcomes.{came_accepted}

-- no call but a question writes a row
module _ (room : Room) (rows : List BookRow) where
  abbrev Leaves : Outcome → Type 0
  Leaves o = rows_after o rows ≡ rows

  either_way : (t : Bool) (o o' : Outcome) → Leaves o → Leaves o' → Leaves (cond t o o')
  either_way true o o' a b = a
  either_way false o o' a b = b

  packet_leaves : (s : Started) (r : Result Sent Refusal) → Leaves (on_packet room s r)
  packet_leaves s (Err why) = refl
  packet_leaves s (Ok (heartbeat next session)) = either_way (agrees s.session session) _ _ refl refl
  packet_leaves s (Ok (messages number ms)) = refl

  snapshot_leaves : (s : Started) (r : Result Snapshot Refusal) → Leaves (on_snapshot room s r)
  snapshot_leaves s (Err why) = refl
  snapshot_leaves s (Ok snap) = refl

  waiting_leaves : (l : Lamp) (o : Outcome) → Leaves o → Leaves (unless_waiting room l o)
  waiting_leaves lamp.Waiting o h = refl
  waiting_leaves shown o h = h

  abbrev Silent : calls.Call → Type 0
  Silent (ask q) = ⊥
  Silent call = Unit {0}

  dark_leaves : (c : calls.Call) → Leaves (while_dark room c)
  unfolding while_dark
  dark_leaves start_at_one = refl
  dark_leaves start_by_snapshot = refl
  dark_leaves show_lamp = refl
  dark_leaves call = refl

  red_leaves : (k : ℕ) (cause : Cause) (c : calls.Call) → Leaves (while_red room k cause c)
  unfolding while_red
  red_leaves k cause start_at_one = refl
  red_leaves k cause start_by_snapshot = refl
  red_leaves k cause stop = refl
  red_leaves k cause show_lamp = refl
  red_leaves k cause call = refl

  started_leaves : (s : Started) (c : calls.Call) → Silent c → Leaves (while_started room s c)
  unfolding while_started
  started_leaves s start_at_one q = refl
  started_leaves s start_by_snapshot q = refl
  started_leaves s stop q = refl
  started_leaves s (packet bytes) q = packet_leaves s (packet_of bytes)
  started_leaves s (snapshot bytes) q = either_way (is_some s.book) _ _ refl (snapshot_leaves s (snapshot_of room s.session bytes))
  started_leaves s (repair source budget) q =
      either_way (agrees s.session source.session) _ _ (waiting_leaves (lamp_at s.book s.heard s.highest) _ refl) refl
  started_leaves s show_lamp q = refl
  started_leaves s (ask x) q = absurd q

  pub leaves : (s : State) (c : calls.Call) → Silent c → Leaves (outcome room s c)
  unfolding outcome
  leaves dark c q = dark_leaves c
  leaves (red k cause) c q = red_leaves k cause c
  leaves (started s) c q = started_leaves s c q

-- a question leaves the state as it is
module _ (room : Room) where
  told_stays : (s : State) (r : Result calls.Reply Refusal) → s ≡ moved (told s r) s
  told_stays s (Ok reply) = refl
  told_stays s (Err why) = refl

  asked_stays : (l : Lamp) (b : Option Wanting) (s : State) (q : calls.Question) → s ≡ moved (on_question room l b s q) s
  asked_stays (lamp.Green w) (Some b) s q = told_stays s (answered b.book q)
  asked_stays shown b s q = refl

  pub question_stays : (s : State) (q : calls.Question) → s ≡ moved (outcome room s (ask q)) s
  unfolding outcome while_dark while_red while_started
  question_stays dark q = refl
  question_stays (red k cause) q = refl
  question_stays (started s) q = asked_stays (lamp_at s.book s.heard s.highest) s.book (started s) q

module _ {S : Type 0} (meaning : S → Meaning) (before : Follower) (given : Call S) (lent : List BookRow) where
  -- how this call comes out
  abbrev pub out : Outcome
  out = outcome (slots_of before) (model before) (call_of meaning given (length lent))

  -- a call that is no question writes no row
  pub unwritten : (g : Call S) → given ≡ g → Silent (slots_of before) lent (call_of meaning g (length lent)) → lent ≡ rows_after out lent
  unwritten g e q =
      sym (ap (λ x. rows_after (outcome (slots_of before) (model before) (call_of meaning x (length lent))) lent) e
      ∙ leaves (slots_of before) lent (model before) (call_of meaning g (length lent)) q)

  -- the lamp
  pub shows_lamp : (l : Lamp) → l ≡ lamp_of (model before) → given ≡ call.Lamp → CameOut before before out (Ok (answer.Lamp l))
  shows_lamp l e g =
      came_accepted before before out (model before) (lamp_shown (lamp_of (model before))) (Ok (answer.Lamp l))
      (ap (λ x. outcome (slots_of before) (model before) (call_of meaning x (length lent))) g ∙ shown_at (slots_of before) (model before)) refl (ap (λ x. Ok (answer.Lamp x)) e) refl

  -- a question
  pub asks :
      (q : Question) (r : Result Answer Refusal) → given ≡ call.Ask q →
      r ≡ answer_of (outcome (slots_of before) (model before) (ask (question_of q (length lent)))) → CameOut before before out r
  asks q r e x =
      subst (λ y. CameOut before before (outcome (slots_of before) (model before) (call_of meaning y (length lent))) r) (sym e)
      (record { state = question_stays (slots_of before) (model before) (question_of q (length lent)); answer = x; room = refl })
