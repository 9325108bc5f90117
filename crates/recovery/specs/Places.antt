-- Places among the messages of a session.
use Rattle.std.specs.Prelude.{◌≡◌, ℕ, ◌≤◌, List, Option}
use Rattle.std.specs.Borrow.{Bor}
use Rattle.session.specs.Carried.{still_carried}
use Rattle.source.specs.Meanings.{numbered_from}
use Rattle.recovery.specs.declared.place.Place.{Place}

-- the message numbered n, from a place on
abbrev pub held_from : Place → ℕ → Option (List ℕ)
held_from p n = numbered_from p.number (still_carried p.messages) n

-- the bytes of a message that stands before a place
abbrev pub message_of : Bor (List ℕ) × Place → List ℕ
message_of f = f.0.now

-- a later place: each number from its own on stands there as it stands from the first on
abbrev pub Agrees : Place → Place → Type 0
Agrees first later = (first.number ≤ later.number) × ((n : ℕ) → later.number ≤ n → held_from later n ≡ held_from first n)
