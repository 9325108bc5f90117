-- The lines of a script that need no more than its client.
use Rattle.std.specs.Prelude.{ℕ, Bool, cond, ◌&&◌, ◌||◌, not, List, length, Some, None, Option, ◌==◌, codes, eqb, slice_index}
use Rattle.std.specs.List.{starts_with}
use Rattle.std.specs.Str.{bytes_eq}

abbrev pub begins : List ℕ → List ℕ → Bool
begins text line = starts_with eqb line text

-- a line that asks nothing: an empty one or a comment
abbrev pub is_blank : List ℕ → Bool
is_blank line = length line == 0 || slice_index line 0 == 35

-- `say ` or `login `, and words behind
abbrev pub has_words : List ℕ → Bool
has_words line = begins (codes "say ") line || begins (codes "login ") line

-- a line of the client's
abbrev pub is_own : List ℕ → Bool
is_own line = bytes_eq line (codes "beat") || bytes_eq line (codes "logout") || bytes_eq line (codes "lost") || has_words line

-- a line that is neither
abbrev pub handed_back : List ℕ → Option (List ℕ)
handed_back line = cond (is_blank line || is_own line) None (Some line)

-- whether a session is open behind a line that was run or handed back
abbrev pub open_behind : List ℕ → Bool → Bool
open_behind line was =
    (begins (codes "login ") line || was) && not (bytes_eq line (codes "logout") || bytes_eq line (codes "lost"))
