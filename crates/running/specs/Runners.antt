-- What a runner of the code holds, in the words of the plain follower.
use Rattle.std.specs.Prelude.{◌≡◌, ℕ, suc, ◌-◌, ◌<◌, ◌≤◌, List, map, drop, Some, None, Ok, Err, Option, Result}
use Rattle.wire.specs.Names.{Session}
use Rattle.table.specs.Tables.{entries, room}
use Rattle.book.specs.Books.{plain, slots}
use Rattle.book.specs.Plain.{Plain, Slots}
use Rattle.following.specs.States.{Room, Held}
use Rattle.following.specs.Follower.{Place, bookless, wanting, stopped, Fate, Mended, ends, fetched_one, Snapshot}
use Rattle.following.specs.Follower as spec
use Rattle.following.specs.declared.answers.Counts.{Counts}
use Rattle.following.specs.declared.answers.Ending.{Ending}
use Rattle.running.specs.declared.rows.HeldRow.{HeldRow}
use Rattle.running.specs.declared.runner.Runner.{Runner}
use Rattle.running.specs.declared.moves.Stop.{Stop}
use Rattle.running.specs.declared.moves.Wanted.{Wanted}
use Rattle.running.specs.declared.moves.Treated.{Treated}
use Rattle.running.specs.declared.moves.Treated.TheVariants as treated
use Rattle.running.specs.declared.moves.Repair.{Repair}
use Rattle.running.specs.Rows.{held_message}

abbrev pub held_in : Runner → List Held
held_in r = map held_message (entries r.held)

abbrev pub book_in : Runner → Plain
book_in r = plain r.book.now

abbrev pub room_of : Runner → Room
room_of r = record { for_book = slots r.book.now; for_held = room r.held }

-- where the messages have led
abbrev pub Reached : Type 0
Reached = Result (Option Wanted) Stop

abbrev pub place_in : Runner → Reached → Place
place_in r (Ok None) = bookless (held_in r)
place_in r (Ok (Some w)) = wanting (record { book = book_in r; wanted = w.number }) (held_in r)
place_in r (Err stop) = stopped stop.number stop.cause

-- a runner led to a place, over the same slots
pub record Leads (old new : Runner) (at : Reached) (due : Place) : Type 0 where
  pub place : place_in new at ≡ due
  pub room : room_of new ≡ room_of old

-- a run of rows from the wanted number on: the number wanted then, with what is left of them, or where a cause stopped
-- the book
abbrev pub RowsRun : Slots → Plain → ℕ → List HeldRow → Plain → Result Wanted Stop → Type 0
RowsRun slots book wanted rows after (Ok next) =
    (wanted ≤ next.number)
    × ((room : Room) → room.for_book ≡ slots →
    spec.run_held room book wanted (map held_message rows)
    ≡ wanting (record { book = after; wanted = next.number }) (map held_message (drop (next.number - wanted) rows)))
RowsRun slots book wanted rows after (Err stop) =
    (room : Room) → room.for_book ≡ slots → spec.run_held room book wanted (map held_message rows) ≡ stopped stop.number stop.cause

-- what became of a message
abbrev pub fate_of : Treated → Fate
fate_of treated.Taken = spec.taken
fate_of treated.Repeated = spec.repeated
fate_of treated.Dropped = spec.dropped
fate_of treated.Unread = spec.unread

-- what a repair came to
abbrev pub mended_in : Runner → Repair → Mended
mended_in r m = record { place = place_in r m.reached; fetched = m.fetched; ending = m.ending }

-- the wanted number that is heard, up to k, or how a repair ends under any budget
abbrev pub Missing : ℕ → Reached → Result Wanted Ending → Type 0
Missing k at (Ok w) = (at ≡ Ok (Some w)) × (w.number ≤ k)
Missing k at (Err how) =
    (runner : Runner) (room : Room) (source : ℕ → Option (List ℕ)) (budget : ℕ) →
    spec.mended room source k budget (place_in runner at) ≡ ends (place_in runner at) how

-- one message fetched and run, or how the repair ends without one
abbrev pub Fetched : Room → (ℕ → Option (List ℕ)) → ℕ → Place → Reached → Runner → Result Reached Ending → Type 0
Fetched room source k place at after (Ok next) =
    (budget : ℕ) → spec.mended room source k (suc budget) place ≡ fetched_one (spec.mended room source k budget (place_in after next))
Fetched room source k place at after (Err how) = (budget : ℕ) → spec.mended room source k (suc budget) place ≡ ends (place_in after at) how

-- a snapshot of the code: its End's number, with a session and a book
abbrev pub snapshot_with : Session → Plain → ℕ → Snapshot
snapshot_with session book next = record { session = session; next = next; book = book }

-- there is room for one more under each count
abbrev pub Countable : Counts → Type 0
Countable c = (c.taken < 65535) × (c.repeated < 65535) × (c.dropped < 65535) × (c.unread < 65535)
