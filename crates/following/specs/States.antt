-- The states of the plain follower, and its lamp.
use Rattle.std.specs.Prelude.{ℕ, Bool, false, cond, List, [], is_some, Some, None, Option, nat_le}
use Rattle.codes.specs.declared.cause.Cause.{Cause}
use Rattle.codes.specs.declared.lamp.Lamp.{Lamp}
use Rattle.codes.specs.declared.lamp.Lamp.TheVariants as lamp
use Rattle.wire.specs.Names.{Session}
use Rattle.table.specs.Rows.{found, placed, onward}
use Rattle.book.specs.Keys.{by_number}
use Rattle.book.specs.Plain.{Plain, Slots, empty}

-- the slots that a follower is lent: the book's, and those for held messages
pub record Room : Type 0 where
  pub for_book : Slots
  pub for_held : ℕ

-- a held message: its number and its bytes
pub record Held : Type 0 where
  pub number : ℕ
  pub bytes : List ℕ

abbrev pub number_of : Held → ℕ
number_of h = h.number

-- held messages stand in a table, ascending by number
abbrev pub is_held : ℕ → List Held → Bool
is_held k held = is_some (found number_of by_number k held)

abbrev pub with_held : ℕ → List ℕ → List Held → List Held
with_held k message held = placed number_of by_number (record { number = k; bytes = message }) held

abbrev pub held_from : ℕ → List Held → List Held
held_from n held = onward number_of by_number n held

-- a book and the number of the message that it wants next
pub record Wanting : Type 0 where
  pub book : Plain
  pub wanted : ℕ

-- a started follower: the session's name or none, a book or none, whether anything was heard, the highest number heard,
-- and the held messages
pub record Started : Type 0 where
  pub session : Option Session
  pub book : Option Wanting
  pub heard : Bool
  pub highest : ℕ
  pub held : List Held

pub data State : Type 0 where
  dark : State
  red : ℕ → Cause → State
  started : Started → State

-- after a start no session is known, and nothing was heard or is held
abbrev pub begun : Option Wanting → State
begun book = started (record { session = None; book = book; heard = false; highest = 0; held = [] })

-- a start at one has the empty book, which wants message 1
abbrev pub from_one : Option Wanting
from_one = Some (record { book = empty; wanted = 1 })

-- waiting without a book, or with nothing heard; gap while the wanted number is at most the highest heard, else green
abbrev pub lamp_at : Option Wanting → Bool → ℕ → Lamp
lamp_at None heard k = lamp.Waiting
lamp_at (Some b) heard k =
    cond heard (cond (nat_le b.wanted k) (lamp.Gap b.wanted k) (lamp.Green b.wanted)) lamp.Waiting

unfoldable pub lamp_of : State → Lamp
lamp_of dark = lamp.Dark
lamp_of (red k cause) = lamp.Red k cause
lamp_of (started s) = lamp_at s.book s.heard s.highest
