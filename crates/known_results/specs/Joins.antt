-- A late join at the numbers of the table, whatever the held messages and the snapshot are.
use Rattle.std.specs.Prelude.{◌≡◌, ℕ, List, [], ◌∷◌, None, Ok}
use Rattle.codes.specs.declared.lamp.Lamp.TheVariants as lamp
use Rattle.book.specs.Plain.{Plain, ran}
use Rattle.following.specs.States.{Room, Held, Started, started, lamp_of}
use Rattle.following.specs.Calls.{snapshot}
use Rattle.following.specs.Follower.{Snapshot, snapshot_of, outcome, moved}

abbrev pub numbered : ℕ → List ℕ → Held
numbered k message = record { number = k; bytes = message }

-- where 3685, 3686 and 3688 are held, and no higher number was heard, an End of 3686 gives gap 3687 to 3688, if the
-- message 3686 stops nothing
abbrev pub GapAmongHeld : Type 0
GapAmongHeld =
    (room : Room) (s : Started) (m n o bytes : List ℕ) (snap : Snapshot) (book : Plain)
    → s.book ≡ None → s.highest ≡ 3688
    → s.held ≡ numbered 3685 m ∷ numbered 3686 n ∷ numbered 3688 o ∷ []
    → snapshot_of room s.session bytes ≡ Ok snap → snap.next ≡ 3686
    → ran room.for_book snap.book n ≡ Ok book
    → lamp_of (moved (outcome room (started s) (snapshot bytes)) (started s)) ≡ lamp.Gap 3687 3688
