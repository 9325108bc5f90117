-- A follower of the code in the words of the plain follower: its state, its calls and its answers.
use Rattle.std.specs.Prelude.{◌≡◌, ℕ, List, ◌++◌, length, drop, Ok, Err, Result}
use Rattle.codes.specs.declared.refusal.Refusal.{Refusal}
use Rattle.source.specs.Meanings.{Meaning}
use Rattle.book.specs.declared.rows.BookRow.{BookRow}
use Rattle.following.specs.States as plain
use Rattle.following.specs.Calls as calls
use Rattle.following.specs.Follower.{moved, outcome}
use Rattle.running.specs.Runners.{room_of, book_in, held_in}
use Rattle.follower.specs.declared.call.Answer.{Answer}
use Rattle.follower.specs.declared.call.Answer.TheVariants as answer
use Rattle.follower.specs.declared.call.Call.{Call}
use Rattle.follower.specs.declared.call.Call.TheVariants as call
use Rattle.follower.specs.declared.call.Question.{Question}
use Rattle.follower.specs.declared.call.Question.TheVariants as question
use Rattle.follower.specs.declared.follower.Follower.{Follower}
use Rattle.follower.specs.Modelled.{modelled}

abbrev pub model : Follower → plain.State
model f = modelled f.state (book_in f.runner) (held_in f.runner)

-- the slots that it was lent
abbrev pub slots_of : Follower → plain.Room
slots_of f = room_of f.runner

-- a question with so many lent rows
abbrev pub question_of : Question → ℕ → calls.Question
question_of question.Event rows = calls.event
question_of (question.States symbol) rows = calls.states symbol.now
question_of (question.Orders symbol side) rows = calls.orders symbol.now side rows

-- a call, where `meaning` is what its source means
abbrev pub call_of : {S : Type 0} → (S → Meaning) → Call S → ℕ → calls.Call
call_of meaning call.StartAtOne rows = calls.start_at_one
call_of meaning call.StartBySnapshot rows = calls.start_by_snapshot
call_of meaning call.Stop rows = calls.stop
call_of meaning (call.Packet bytes) rows = calls.packet bytes.now
call_of meaning (call.Snapshot bytes) rows = calls.snapshot bytes.now
call_of meaning (call.Repair source budget) rows = calls.repair (meaning source.now) budget
call_of meaning call.Lamp rows = calls.show_lamp
call_of meaning (call.Ask q) rows = calls.ask (question_of q rows)

-- the code's answer for one of the plain follower; the rows themselves are lent
abbrev pub answer_as : calls.Reply → Answer
answer_as calls.done = answer.Done
answer_as (calls.counted c) = answer.Counted c
answer_as (calls.snapshot_taken n) = answer.Snapshot n
answer_as (calls.repaired n how) = answer.Repaired n how
answer_as (calls.lamp_shown l) = answer.Lamp l
answer_as (calls.event_is code) = answer.Event code
answer_as (calls.states_are both) = answer.States both.0 both.1
answer_as (calls.orders_are rows) = answer.Orders (length rows)

abbrev pub answer_of : calls.Outcome → Result Answer Refusal
answer_of (calls.refused why) = Err why
answer_of (calls.accepted state reply) = Ok (answer_as reply)

-- lent rows with an answer's at their front
abbrev pub rows_with : calls.Reply → List BookRow → List BookRow
rows_with (calls.orders_are found) rows = found ++ drop (length found) rows
rows_with reply rows = rows

abbrev pub rows_after : calls.Outcome → List BookRow → List BookRow
rows_after (calls.refused why) rows = rows
rows_after (calls.accepted state reply) rows = rows_with reply rows

-- how a call comes out on the plain follower
abbrev pub out_of : {S : Type 0} → (S → Meaning) → Follower → Call S → List BookRow → calls.Outcome
out_of meaning f call rows = outcome (slots_of f) (model f) (call_of meaning call (length rows))

-- a call came out: the state after it, its answer, and the same slots
pub record CameOut (before after : Follower) (o : calls.Outcome) (r : Result Answer Refusal) : Type 0 where
  pub state : model after ≡ moved o (model before)
  pub answer : r ≡ answer_of o
  pub room : slots_of after ≡ slots_of before

-- a call comes out as it does on the plain follower
abbrev pub Comes : Follower → Follower → calls.Call → Result Answer Refusal → Type 0
Comes before after call r = CameOut before after (outcome (slots_of before) (model before) call) r
