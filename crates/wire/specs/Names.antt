-- Symbols and session names.
use Rattle.std.specs.Prelude.{ℕ, cond, List, length, Some, None, Option, ◌==◌}
use Rattle.wire.specs.declared.name.Name.{Name}

-- a symbol has six bytes, and a session's name ten
abbrev pub Symbol : Type 0
Symbol = Name 6

abbrev pub Session : Type 0
Session = Name 10

-- a name is any bytes of its number
abbrev pub name_of : (n : ℕ) → List ℕ → Option (Name n)
name_of n bs = cond (length bs == n) (Some (record { bytes = bs })) None

abbrev pub symbol_of : List ℕ → Option Symbol
symbol_of = name_of 6

abbrev pub session_of : List ℕ → Option Session
session_of = name_of 10
