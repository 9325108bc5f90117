-- Bytes behind a 2-byte length, and messages one behind another.
use Rattle.std.specs.Prelude.{ℕ, zero, suc, ◌+◌, cond, ◌&&◌, List, [], ◌∷◌, length, take, drop, Some, None, Option, ◌==◌, nat_le, nat_lt}
use Rattle.std.specs.Borrow.{Bor}
use Rattle.std.specs.Option.{option_map}
use Rattle.wire.specs.Numbers.{most32, be16}

-- the length in front, where it lies within the limits and that many bytes follow it
abbrev pub front_length : ℕ → ℕ → List ℕ → Option ℕ
front_length least most bytes =
    cond (nat_le least (be16 bytes 0) && nat_le (be16 bytes 0) most && nat_le (2 + be16 bytes 0) (length bytes)) (Some (be16 bytes 0)) None

-- a message of a packet has 5 to 80 bytes behind its length
abbrev pub message_length : List ℕ → Option ℕ
message_length = front_length 5 80

-- the message at the front and what is behind it, where the message is whole
abbrev pub cut_at : List ℕ → ℕ → List ℕ × List ℕ
cut_at bytes k = (take k (drop 2 bytes), drop (2 + k) bytes)

abbrev pub split_message : List ℕ → Option (List ℕ × List ℕ)
split_message bytes = option_map (cut_at bytes) (message_length bytes)

-- what is behind so many messages, where each is whole
unfoldable pub skip_messages : ℕ → List ℕ → Option (List ℕ)
skip_messages zero bytes = Some bytes
skip_messages (suc n) bytes = elim (message_length bytes) [ None ↦ None | Some k ↦ skip_messages n (drop (2 + k) bytes) ]

-- the bytes that the code has split or left
abbrev pub parts : Bor (List ℕ) × Bor (List ℕ) → List ℕ × List ℕ
parts p = (p.0.now, p.1.now)

abbrev pub rest : Bor (List ℕ) → List ℕ
rest b = b.now

-- so many messages, each behind its length, and no byte left over
unfoldable pub unpacked : ℕ → List ℕ → Option (List (List ℕ))
unpacked zero bytes = cond (length bytes == 0) (Some []) None
unpacked (suc n) bytes =
    elim (message_length bytes) [ None ↦ None | Some k ↦ option_map (λ ms. take k (drop 2 bytes) ∷ ms) (unpacked n (drop (2 + k) bytes)) ]

-- the walk over the messages: so many as are left, while each is whole and its number is within the limit
unfoldable pub walked : ℕ → ℕ → List ℕ → List (List ℕ)
walked zero number bytes = []
walked (suc n) number bytes =
    cond (nat_lt most32 number) []
    (elim (message_length bytes) [ None ↦ [] | Some k ↦ take k (drop 2 bytes) ∷ walked n (number + 1) (drop (2 + k) bytes) ])
