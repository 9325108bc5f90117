-- What a fault is.
use Rattle.std.specs.Prelude.{◌≡◌}
use Rattle.std.specs.IoError.{error_kind}
use Rattle.std.specs.declared.io.Error.{Error}
use Rattle.std.specs.declared.io.ErrorKind.TheVariants.{OutOfMemory}
use Rattle.scripts.specs.declared.fault.Fault.{Fault}
use Rattle.scripts.specs.declared.fault.Fault.TheVariants as fault

-- the program's error that no memory is left
abbrev pub IsOutOfMemory : Fault → Type 0
IsOutOfMemory f = (error : Error) × (f ≡ fault.Io error) × (error_kind error ≡ OutOfMemory)
