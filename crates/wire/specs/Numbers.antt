-- Unsigned big-endian integers, and the limits of the feed. A byte past the end reads as 0.
use Rattle.std.specs.Prelude.{ℕ, ◌+◌, ◌*◌, List, slice_index}

-- the largest 2-byte and the largest 4-byte integer of the feed
abbrev pub most16 : ℕ
most16 = 32767

abbrev pub most32 : ℕ
most32 = 2147483647

-- the largest price, in ten-millionths of a yen: a limit of the house
abbrev pub most_price : ℕ
most_price = 1000000000000000

-- the integer of 2, of 4 and of 8 bytes that begins at an offset
abbrev pub be16 : List ℕ → ℕ → ℕ
be16 bytes at = slice_index bytes at * 256 + slice_index bytes (at + 1)

abbrev pub be32 : List ℕ → ℕ → ℕ
be32 bytes at = be16 bytes at * 65536 + be16 bytes (at + 2)

abbrev pub be64 : List ℕ → ℕ → ℕ
be64 bytes at = be32 bytes at * 4294967296 + be32 bytes (at + 4)
