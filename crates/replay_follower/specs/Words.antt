-- What a word of a script says.
use Rattle.std.specs.Prelude.{ℕ, cond, ◌&&◌, List, [], ◌++◌, length, drop, replicate, Some, None, Option, ◌==◌, nat_le, slice_index}
use Rattle.scripts.specs.Hex.{bytes_of}

-- one pair of digits or more; - alone is no bytes
abbrev pub bytes_in : List ℕ → Option (List ℕ)
bytes_in word =
    cond (length word == 1 && slice_index word 0 == 45) (Some []) (cond (length word == 0) None (bytes_of word))

-- text of one to six characters, filled up with spaces
abbrev pub filled_up : List ℕ → Option (List ℕ)
filled_up text = cond (nat_le 1 (length text) && nat_le (length text) 6) (Some (text ++ drop (length text) (replicate 6 32))) None

abbrev pub filled_in : Option (List ℕ) → Option (List ℕ)
filled_in None = None
filled_in (Some bytes) = filled_up bytes

-- a symbol is such text, or 0x and twelve digits
abbrev pub symbol_in : List ℕ → Option (List ℕ)
symbol_in text =
    cond (length text == 14 && slice_index text 0 == 48 && slice_index text 1 == 120) (filled_in (bytes_of (drop 2 text))) (filled_up text)
