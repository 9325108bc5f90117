use Rattle.std.proofs.Common.{◌≡◌, length, vec_items}
use Rattle.scripts.specs.Hex.{bytes_of}
use Rattle.scripts.proofs.Pairs.{before}
use Rattle.scripts.proofs.hex.decode.Given as goal

abbrev pub invariant-loop-rest : goal.invariant-loop-rest
invariant-loop-rest l = before (vec_items l.bytes) (bytes_of l.rest) ≡ bytes_of l.text

abbrev pub decreases-loop-rest : goal.decreases-loop-rest
decreases-loop-rest l = length l.rest
