-- The bytes that a venue sends: messages, packets and session bytes, laid out from their fields.
use Rattle.std.specs.Prelude.{ℕ, suc, ◌/◌, ◌%◌, List, [], ◌∷◌, ◌++◌, length, replicate, codes}
use Prim.Native.String.{String}

-- integers of 2, 4 and 8 bytes, the highest byte first
abbrev pub in_two : ℕ → List ℕ
in_two n = n / 256 ∷ n % 256 ∷ []

abbrev pub in_four : ℕ → List ℕ
in_four n = in_two (n / 65536) ++ in_two (n % 65536)

abbrev pub in_eight : ℕ → List ℕ
in_eight n = in_four (n / 4294967296) ++ in_four (n % 4294967296)

-- a message: a time, which nobody reads, its letter, and its fields
abbrev pub message : String → List ℕ → List ℕ
message letter fields = in_four 32400 ++ codes letter ++ fields

abbrev pub seconds_message : List ℕ
seconds_message = message "T" []

-- the code is a letter
abbrev pub event_message : String → List ℕ
event_message code = message "S" (codes code)

-- the state is a letter, and one more byte follows
abbrev pub status_message : String → String → List ℕ
status_message symbol state = message "H" (codes symbol ++ codes state ++ codes " ")

-- reference, side, shares, symbol, price
abbrev pub add_message : ℕ → String → ℕ → String → ℕ → List ℕ
add_message reference side shares symbol price =
    message "A" (in_four reference ++ codes side ++ in_four shares ++ codes symbol ++ in_eight price ++ codes "Y")

abbrev pub execute_message : ℕ → ℕ → List ℕ
execute_message reference shares = message "E" (in_four reference ++ in_four shares ++ replicate 9 0)

abbrev pub cancel_message : ℕ → ℕ → List ℕ
cancel_message reference shares = message "X" (in_four reference ++ in_four shares)

-- the End of a snapshot
abbrev pub end_message : ℕ → List ℕ
end_message next = message "G" (in_four next)

-- messages, each behind its length
abbrev pub lengths_and_messages : List (List ℕ) → List ℕ
lengths_and_messages [] = []
lengths_and_messages (m ∷ ms) = in_two (length m) ++ m ++ lengths_and_messages ms

-- a packet of messages, the first of them numbered so
abbrev pub data_packet : ℕ → List (List ℕ) → List ℕ
data_packet number ms = in_four number ++ in_two (length ms) ++ lengths_and_messages ms

-- a heartbeat: the number of the message to come, the count 0, and the session's name
abbrev pub heartbeat_packet : ℕ → String → List ℕ
heartbeat_packet next session = in_four next ++ in_two 0 ++ codes session

-- a session message: a length that counts its letter, the letter, and data
abbrev pub session_message : String → List ℕ → List ℕ
session_message letter body = in_two (suc (length body)) ++ codes letter ++ body

-- Login Accepted: the session's name, a number field of ten bytes, and eleven bytes more
abbrev pub login_message : String → String → List ℕ
login_message session field = session_message "A" (codes session ++ codes field ++ replicate 11 32)

-- sequenced data, a session message for each message
abbrev pub sequenced : List (List ℕ) → List ℕ
sequenced [] = []
sequenced (m ∷ ms) = session_message "S" m ++ sequenced ms

-- session bytes: debug, Login Accepted, a server heartbeat, and sequenced data
abbrev pub session_bytes : String → String → List (List ℕ) → List ℕ
session_bytes session field ms =
    session_message "+" (codes "hello") ++ login_message session field ++ session_message "H" [] ++ sequenced ms
