-- The rows of held messages.
use Rattle.std.specs.Prelude.{ℕ, min, List, take}
use Rattle.following.specs.States.{Held}
use Rattle.running.specs.declared.rows.HeldRow.{HeldRow}

abbrev pub row_number : HeldRow → ℕ
row_number row = row.number

-- the message of a row is at the front of its bytes
abbrev pub message_in : HeldRow → List ℕ
message_in row = take (min row.length 80) row.bytes

abbrev pub held_message : HeldRow → Held
held_message row = record { number = row.number; bytes = message_in row }
