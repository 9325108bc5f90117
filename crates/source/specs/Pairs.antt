-- What two sources mean together.
use Rattle.std.specs.Prelude.{ℕ, Bool, cond, List, Some, None, Option}
use Rattle.std.specs.Str.{bytes_eq}
use Rattle.wire.specs.Names.{Session}
use Rattle.source.specs.Meanings.{Meaning}

-- whether two sessions have the same name
abbrev pub same_session : Session → Session → Bool
same_session a b = bytes_eq a.bytes b.bytes

-- what the first holds; where it lacks the number and the sessions are the same, what the second holds
abbrev pub either : Bool → Option (List ℕ) → Option (List ℕ) → Option (List ℕ)
either same (Some m) second = Some m
either same None second = cond same second None

abbrev pub paired : Meaning → Meaning → Meaning
paired first second =
    record { session = first.session; held = λ n. either (same_session first.session second.session) (first.held n) (second.held n) }
