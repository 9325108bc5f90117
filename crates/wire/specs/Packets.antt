-- What the bytes of a packet say, or the first refusal that they meet.
use Rattle.std.specs.Prelude.{◌≡◌, ℕ, ◌+◌, ◌-◌, Bool, cond, ◌&&◌, List, [], ◌∷◌, length, drop, Some, None, Err, Option, Result, ◌==◌, nat_le, nat_lt}
use Rattle.std.specs.Option.{option_map, ok_or}
use Rattle.codes.specs.declared.refusal.Refusal.{Refusal}
use Rattle.codes.specs.declared.refusal.Refusal.TheVariants.{ShortPacket, PacketNumbers, PacketLayout}
use Rattle.wire.specs.Names.{Session}
use Rattle.wire.specs.declared.packet.Packet.{Packet}
use Rattle.wire.specs.declared.packet.Packet.TheVariants as packet
use Rattle.wire.specs.declared.messages.Messages.{Messages}
use Rattle.wire.specs.declared.messages.Numbered.{Numbered}
use Rattle.wire.specs.Numbers.{most16, most32, be16, be32}
unfoldable pub use Rattle.wire.specs.Frames.{message_length, unpacked, walked}
use Rattle.wire.specs.Names.{session_of}

-- a heartbeat tells the number of the next message and the session;
-- data tell the number of their first message and have each message's bytes
pub data Sent : Type 0 where
  heartbeat : ℕ → Session → Sent
  messages : ℕ → List (List ℕ) → Sent

-- a number from 1 on, a count that 2 bytes may tell, and a last number (a heartbeat's own) that 4 bytes may tell
abbrev pub well_numbered : ℕ → ℕ → Bool
well_numbered number count = nat_le 1 number && nat_le count most16 && nat_le (number + (count - 1)) most32

abbrev pub laid_out : {X : Type 0} → (X → Sent) → Option X → Result Sent Refusal
laid_out say o = ok_or (option_map say o) PacketLayout

-- what stands behind a header: a heartbeat has count 0 and its session to the end
abbrev pub behind : ℕ → ℕ → List ℕ → Result Sent Refusal
behind number count rest =
    cond (well_numbered number count)
    (cond (count == 0) (laid_out (heartbeat number) (session_of rest)) (laid_out (messages number) (unpacked count rest)))
    (Err PacketNumbers)

-- the header: the number at 0, the count at 4
unfoldable pub packet_of : List ℕ → Result Sent Refusal
packet_of bytes = cond (nat_lt (length bytes) 6) (Err ShortPacket) (behind (be32 bytes 0) (be16 bytes 4) (drop 6 bytes))

-- the messages that are still to be walked
abbrev pub left_in : Messages → List (List ℕ)
left_in m = walked m.left m.number m.bytes.now

-- one step of the walk: the first message that is left comes with its number, or none is left
abbrev pub Walked : Messages → Option Numbered → Messages → Type 0
Walked s None t = (left_in s ≡ []) × (t ≡ s)
Walked s (Some m) t = (left_in s ≡ m.bytes.now ∷ left_in t) × (m.number ≡ s.number) × (t.number ≡ s.number + 1)

-- what a packet of the code says
abbrev pub sent : Packet → Sent
sent (packet.Heartbeat next session) = heartbeat next session
sent (packet.Data m) = messages m.number (left_in m)
