-- What a word of a script says.
use Rattle.std.specs.Prelude.{ℕ, ◌+◌, ◌-◌, ◌*◌, ◌^◌, Bool, cond, ◌&&◌, List, [], ◌∷◌, length, Some, None, Option, ◌==◌, nat_le, nat_lt, min}
use Rattle.std.specs.Option.{option_map}
use Rattle.std.specs.Str.{all_ascii_digits}
use Rattle.scripts.specs.Hex.{bytes_of}

abbrev pub sized : ℕ → Option (List ℕ) → Option (List ℕ)
sized n None = None
sized n (Some bytes) = cond (length bytes == n) (Some bytes) None

-- pairs of digits that say exactly n bytes
abbrev pub exactly_in : ℕ → List ℕ → Option (List ℕ)
exactly_in n word = sized n (bytes_of word)

-- the number that decimal digits say behind those of n
abbrev pub read_on : ℕ → List ℕ → ℕ
read_on n [] = n
read_on n (c ∷ rest) = read_on (n * 10 + (c - 48)) rest

abbrev pub is_decimal : List ℕ → Bool
is_decimal word = all_ascii_digits word && nat_le 1 (length word) && nat_lt (read_on 0 word) (2 ^ 64)

-- one decimal digit or more that say a number of 64 bits
abbrev pub decimal_in : List ℕ → Option ℕ
decimal_in word = cond (is_decimal word) (Some (read_on 0 word)) None

-- such a number, or the largest of a field of 32 bits where it is above
abbrev pub field_in : List ℕ → Option ℕ
field_in word = option_map (λ n. min n (2 ^ 32 - 1)) (decimal_in word)
