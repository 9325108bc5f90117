-- The packets of a capture file.
use Rattle.std.specs.Prelude.{ℕ, List, Option}
use Rattle.std.specs.Option.{option_map}
use Rattle.wire.specs.Frames.{front_length, cut_at}

-- the first packet, behind its length, and what follows it, where the packet is whole
abbrev pub first_packet : List ℕ → Option (List ℕ × List ℕ)
first_packet bytes = option_map (cut_at bytes) (front_length 0 65535 bytes)
