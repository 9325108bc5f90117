-- The state of the plain follower that a state of the code is.
use Rattle.std.specs.Prelude.{◌≡◌, ℕ, Bool, List, Some, None, Option, is_some}
use Rattle.std.specs.Option.{unwrap_or}
use Rattle.book.specs.Plain.{Plain}
use Rattle.following.specs.States as plain
use Rattle.following.specs.Calls.{Call}
use Rattle.following.specs.Days.{after}
use Rattle.running.specs.declared.moves.Wanted.{Wanted}
use Rattle.follower.specs.declared.state.State.{State}
use Rattle.follower.specs.declared.state.State.TheVariants as state

-- a book that wants a number
abbrev pub wanting_at : Option Wanted → Plain → Option plain.Wanting
wanting_at None book = None
wanting_at (Some w) book = Some (record { book = book; wanted = w.number })

-- whether anything was heard, and the highest number, 0 before that
abbrev pub is_heard : Option ℕ → Bool
is_heard heard = is_some heard

abbrev pub highest_of : Option ℕ → ℕ
highest_of heard = unwrap_or heard 0

abbrev pub modelled : State → Plain → List plain.Held → plain.State
modelled state.Dark book held = plain.dark
modelled (state.Red stop) book held = plain.red stop.number stop.cause
modelled (state.Started s) book held =
    plain.started
    (record { session = s.session; book = wanting_at s.wanted book; heard = is_heard s.heard; highest = highest_of s.heard; held = held })

-- some history leads to a state
abbrev pub Reachable : plain.Room → plain.State → Type 0
Reachable room s = (history : List Call) × (after room history ≡ s)
