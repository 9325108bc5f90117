use Rattle.std.proofs.Common.{◌≡◌, ◌++◌, drop}
use Rattle.std.specs.String.{string_bytes}
use Rattle.scripts.specs.Hex.{digits_of}
use Rattle.scripts.proofs.hex.encode.Given as goal

abbrev pub invariant-loop-b : goal.invariant-loop-b
invariant-loop-b l = string_bytes l.digits ++ digits_of (drop l.b-index l.bytes) ≡ digits_of l.bytes
