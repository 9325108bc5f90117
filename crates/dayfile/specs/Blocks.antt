-- What the bytes of a day file say.
use Rattle.std.specs.Prelude.{ℕ, zero, suc, ◌+◌, ◌*◌, ◌/◌, ◌%◌, Bool, cond, List, [], ◌∷◌, length, take, drop, Some, None, Ok, Err, Option, Result, ◌==◌}
use Rattle.std.specs.List.{list_all}
use Rattle.std.specs.Option.{option_map}
use Rattle.codes.specs.declared.refusal.Refusal.{Refusal}
use Rattle.codes.specs.declared.refusal.Refusal.TheVariants.{NoGoodBlock}
use Rattle.wire.specs.Names.{Session}
use Rattle.wire.specs.Messages.{part}
use Rattle.wire.specs.Names.{session_of}
use Rattle.wire.specs.Numbers.{be16}
use Rattle.wire.specs.Packets.{Sent, heartbeat, messages, message_length, packet_of}
use Rattle.source.specs.Meanings.{Meaning, numbered_from}
use Rattle.source.specs.Pairs.{same_session}

-- so many blocks of 512 bytes, one behind the other
unfoldable pub cut : ℕ → List ℕ → List (List ℕ)
cut zero bytes = []
cut (suc n) bytes = take 512 bytes ∷ cut n (drop 512 bytes)

-- the whole blocks of a file: what is left behind them is not read
abbrev pub blocks : List ℕ → List (List ℕ)
blocks bytes = cut (length bytes / 512) bytes

-- the sum of the bytes, each times its place, where the first has place i
unfoldable pub weighted : ℕ → List ℕ → ℕ
weighted i [] = 0
weighted i (b ∷ bs) = i * b + weighted (i + 1) bs

-- the check of a block: the bytes 0 to 509, each times its place counted from 1, modulo 65521
abbrev pub check_of : List ℕ → ℕ
check_of block = weighted 1 (take 510 block) % 65521

-- how many bytes so many messages take at the front, each behind its length
unfoldable pub extent : ℕ → List ℕ → Option ℕ
extent zero bytes = Some 0
extent (suc n) bytes =
    elim (message_length bytes) [ None ↦ None | Some k ↦ option_map (λ e. 2 + k + e) (extent n (drop (2 + k) bytes)) ]

-- nothing but zeros
abbrev pub zeros : List ℕ → Bool
zeros = list_all (λ b. b == 0)

-- what a good block has: a session, and messages that are numbered from a number on
pub record Block : Type 0 where
  pub session : Session
  pub number : ℕ
  pub messages : List (List ℕ)

-- data that meet no refusal; a heartbeat has no messages
abbrev pub data_of : Session → Result Sent Refusal → Option Block
data_of session (Ok (messages number ms)) = Some (record { session = session; number = number; messages = ms })
data_of session (Ok (heartbeat next other)) = None
data_of session (Err refusal) = None

-- the packet ends where its last counted message does, and only zeros follow it
abbrev pub ended : Session → List ℕ → Option ℕ → Option Block
ended session padded None = None
ended session padded (Some n) =
    cond (zeros (drop (6 + n) padded)) (data_of session (packet_of (take (6 + n) padded))) None

-- a padded packet, with its count at 4 and its messages from 6 on
abbrev pub padded_packet : Option Session → List ℕ → Option Block
padded_packet None padded = None
padded_packet (Some session) padded = ended session padded (extent (be16 padded 4) (drop 6 padded))

-- a good block: the session at 0, the padded packet at 10, and at 510 the right check
unfoldable pub good : List ℕ → Option Block
good block =
    cond (check_of block == be16 block 510) (padded_packet (session_of (part 0 10 block)) (part 10 500 block)) None

-- what a block holds under a number, if it is good and of the session
abbrev pub held_in : Session → Option Block → ℕ → Option (List ℕ)
held_in session None n = None
held_in session (Some block) n =
    cond (same_session session block.session) (numbered_from block.number block.messages n) None

-- what is held here, or else elsewhere
abbrev pub or_later : Option (List ℕ) → Option (List ℕ) → Option (List ℕ)
or_later (Some m) later = Some m
or_later None later = later

-- what blocks hold under a number: an earlier block comes before a later
unfoldable pub in_blocks : Session → List (List ℕ) → ℕ → Option (List ℕ)
in_blocks session [] n = None
in_blocks session (b ∷ bs) n = or_later (held_in session (good b) n) (in_blocks session bs n)

-- the session of a good block, or else that of a later one
abbrev pub session_or : Option Block → Option Session → Option Session
session_or (Some block) later = Some block.session
session_or None later = later

-- the session of the first good block
unfoldable pub first_session : List (List ℕ) → Option Session
first_session [] = None
first_session (b ∷ bs) = session_or (good b) (first_session bs)

-- a day file has the session of its first good block, and holds what the good blocks of that session hold
abbrev pub filed : Option Session → List ℕ → Result Meaning Refusal
filed None bytes = Err NoGoodBlock
filed (Some session) bytes = Ok (record { session = session; held = in_blocks session (blocks bytes) })

unfoldable pub day_file : List ℕ → Result Meaning Refusal
day_file bytes = filed (first_session (blocks bytes)) bytes
