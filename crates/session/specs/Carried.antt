-- The messages that a session carries after its opening.
use Rattle.std.specs.Prelude.{◌≡◌, ℕ, Bool, cond, ◌&&◌, ◌||◌, List, [], ◌∷◌, length, Some, None, Option, ◌==◌, nat_le}
use Rattle.std.specs.Borrow.{Bor}
use Rattle.session.specs.declared.carried.Carried.{Carried}
use Rattle.session.specs.Sessions.{Framed, rest_of}

-- a message of the feed has 5 to 80 bytes
abbrev pub message_sized : List ℕ → Bool
message_sized bytes = nat_le 5 (length bytes) && nat_le (length bytes) 80

-- the data of the S messages; debug (+) and heartbeat (H) are skipped; another letter, or S data of another size, ends it
unfoldable pub carried : List Framed → List (List ℕ)
carried [] = []
carried (m ∷ ms) =
    cond (m.letter == 43 || m.letter == 72) (carried ms)
    (cond (m.letter == 83 && message_sized m.body) (m.body ∷ carried ms) [])

-- what the code has yet to read
abbrev pub still_carried : Carried → List (List ℕ)
still_carried c = carried (rest_of c.messages)

-- one step: the first message that is left comes, or none is left and nothing moves
abbrev pub Carries : Carried → Option (Bor (List ℕ)) → Carried → Type 0
Carries s None t = (still_carried s ≡ []) × (t ≡ s)
Carries s (Some m) t = still_carried s ≡ m.now ∷ still_carried t
