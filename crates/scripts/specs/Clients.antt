-- Whether a client has a session open, and what asks for one.
use Rattle.std.specs.Prelude.{◌≡◌, Bool, false, is_some, Result, IsErrOf}
use Rattle.scripts.specs.declared.client.Client.{Client}
use Rattle.scripts.specs.declared.fault.Fault.{Fault}
use Rattle.scripts.specs.declared.fault.Fault.TheVariants as fault

abbrev pub is_open : Client → Bool
is_open client = is_some client.session

-- without a session the call is a bad line
abbrev pub NeedsSession : {T : Type 0} → Client → Result T Fault → Type 0
NeedsSession client result = is_open client ≡ false → IsErrOf result fault.BadLine
