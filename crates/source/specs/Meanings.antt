-- What a source of missing messages means, and what a fetch answers and writes.
use Rattle.std.specs.Prelude.{ℕ, ◌+◌, ◌≤◌, cond, List, [], ◌∷◌, ◌++◌, length, drop, Some, None, Option, ◌==◌}
use Rattle.wire.specs.Names.{Session}

-- the name of a session, and which message is held under which number
pub record Meaning : Type 0 where
  pub session : Session
  pub held : ℕ → Option (List ℕ)

-- of messages that are numbered from s on, the one numbered n
unfoldable pub numbered_from : ℕ → List (List ℕ) → ℕ → Option (List ℕ)
numbered_from s [] n = None
numbered_from s (m ∷ ms) n = cond (n == s) (Some m) (numbered_from (s + 1) ms n)

-- a fetch answers the length of the message, or that it is not held
abbrev pub answer : Option (List ℕ) → Option ℕ
answer None = None
answer (Some m) = Some (length m)

-- it writes the message at the front, and leaves the rest; where it is not held, it leaves all
abbrev pub written : Option (List ℕ) → List ℕ → List ℕ
written None out = out
written (Some m) out = m ++ drop (length m) out

-- a message that is held has 5 to 80 bytes
abbrev pub Sized : Option (List ℕ) → Type 0
Sized None = Unit {0}
Sized (Some m) = (5 ≤ length m) × (length m ≤ 80)
