-- The steps of a call, in the words of the plain follower.
use Rattle.std.specs.Prelude.{◌≡◌, ℕ, Bool, true, List, Some, None, Ok, Err, Option, Result}
use Rattle.codes.specs.declared.refusal.Refusal.{Refusal}
use Rattle.codes.specs.declared.refusal.Refusal.TheVariants as refusal
use Rattle.wire.specs.Names.{Session}
use Rattle.session.specs.Sessions.{session_messages, opening}
use Rattle.session.specs.Sessions as session
use Rattle.session.specs.declared.messages.Opened.{Opened}
use Rattle.book.specs.declared.rows.BookRow.{BookRow}
use Rattle.following.specs.States.{Room}
use Rattle.following.specs.Calls.{Call, start_at_one, start_by_snapshot, Reply}
use Rattle.following.specs.Follower.{agrees, of_mode, opened}
use Rattle.running.specs.Runners.{Reached}
use Rattle.running.specs.declared.moves.Wanted.{Wanted}
use Rattle.follower.specs.declared.call.Answer.{Answer}
use Rattle.follower.specs.declared.state.Started.{Started}
use Rattle.follower.specs.declared.state.State.{State}
use Rattle.follower.specs.declared.state.State.TheVariants as state
use Rattle.follower.specs.Marks.{marked_at}
use Rattle.follower.specs.Model.{answer_as, rows_with}

-- what is started, or the refusal of a call that is for a started follower
abbrev pub started_in : State → Result Started Refusal
started_in state.Dark = Err refusal.Dark
started_in (state.Red stop) = Err refusal.Red
started_in (state.Started s) = Ok s

-- a start's wanted number is 1, if it has a book
abbrev pub StartsAtOne : Option Wanted → Type 0
StartsAtOne None = Unit {0}
StartsAtOne (Some w) = w.number ≡ 1

abbrev pub start_of : Option Wanted → Call
start_of None = start_by_snapshot
start_of (Some w) = start_at_one

-- the bounds of the numbers where messages have led
abbrev pub bounded_by : Reached → ℕ → Bool
bounded_by (Ok wanted) highest = marked_at wanted highest
bounded_by (Err stop) highest = true

-- what opens as a snapshot, or the refusal that it meets
abbrev pub Opens : Option Session → List ℕ → Result Opened Refusal → Type 0
Opens known bytes (Ok o) = (of_mode (opening (session_messages bytes)) ≡ Some (session.opened o)) × (agrees known o.session ≡ true)
Opens known bytes (Err why) = (room : Room) → opened room known (of_mode (opening (session_messages bytes))) ≡ Err why

-- what a book replied, as an answer and in the lent rows
abbrev pub replied : Result Reply Refusal → Result Answer Refusal
replied (Ok reply) = Ok (answer_as reply)
replied (Err why) = Err why

abbrev pub rows_replied : Result Reply Refusal → List BookRow → List BookRow
rows_replied (Ok reply) rows = rows_with reply rows
rows_replied (Err why) rows = rows
