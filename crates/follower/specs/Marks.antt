-- The bounds of a started follower's numbers.
use Rattle.std.specs.Prelude.{ℕ, suc, Bool, ◌&&◌, Some, None, Option, nat_le}
use Rattle.std.specs.Option.{unwrap_or}
use Rattle.wire.specs.Numbers.{most32}
use Rattle.running.specs.declared.moves.Wanted.{Wanted}

-- the highest number is one that there can be, and the wanted number at most one above it
abbrev pub marked_at : Option Wanted → ℕ → Bool
marked_at None highest = nat_le highest most32
marked_at (Some wanted) highest = nat_le wanted.number (suc highest) && nat_le highest most32

-- and so before anything was heard, where the highest number is 0
abbrev pub marked : Option Wanted → Option ℕ → Bool
marked wanted heard = marked_at wanted (unwrap_or heard 0)
