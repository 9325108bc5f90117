-- What the code has read of a block, what a look for a number finds, and what a cursor is good for.
use Rattle.std.specs.Prelude.{◌≡◌, ℕ, ◌≤◌, List, Some, None, Ok, Err, Option, Result}
use Rattle.std.specs.Borrow.{Bor}
use Rattle.wire.specs.Names.{Session}
use Rattle.wire.specs.Packets.{left_in}
use Rattle.source.specs.Meanings.{Sized}
use Rattle.dayfile.specs.declared.block.GoodBlock.{GoodBlock}
use Rattle.dayfile.specs.declared.cursor.Cursor.{Cursor}
use Rattle.dayfile.specs.Blocks.{Block, blocks, in_blocks}

-- a good block of the code
abbrev pub seen : GoodBlock → Block
seen b = record { session = b.session; number = b.messages.number; messages = left_in b.messages }

-- what a look for a number may answer of a block that holds those messages: the message, of 5 to 80 bytes,
-- or a number up to which nothing is held from the one looked for on
abbrev pub Looked : (ℕ → Option (List ℕ)) → ℕ → Result (Bor (List ℕ)) ℕ → Type 0
Looked held number (Ok m) = (held number ≡ Some m.now) × Sized (Some m.now)
Looked held number (Err last) = (number ≤ last) × ((n : ℕ) → number ≤ n → n ≤ last → held n ≡ None)

-- the bytes of a message that was found
abbrev pub message_in : Option (Bor (List ℕ)) → Option (List ℕ)
message_in None = None
message_in (Some m) = Some m.now

-- from the cursor's block on the same is held as in the whole file, under each number from `low` to `high`
abbrev pub Leads : List ℕ → Session → Cursor → Type 0
Leads bytes session cursor =
    (n : ℕ) → cursor.low ≤ n → n ≤ cursor.high → in_blocks session (blocks cursor.rest.now) n ≡ in_blocks session (blocks bytes) n
