-- A field: some bytes at an offset.
use Rattle.std.specs.Prelude.{ℕ, ◌+◌, cond, List, length, take, drop, Some, None, Option, nat_le}

-- n bytes from an offset on
abbrev pub part : ℕ → ℕ → List ℕ → List ℕ
part at n m = take n (drop at m)

-- the same, where there are so many
abbrev pub field_of : ℕ → ℕ → List ℕ → Option (List ℕ)
field_of n at m = cond (nat_le (at + n) (length m)) (Some (part at n m)) None
