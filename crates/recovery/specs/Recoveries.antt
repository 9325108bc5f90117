-- What a recovery session holds.
use Rattle.std.specs.Prelude.{ℕ, cond, List, Some, None, Ok, Err, Option, Result, nat_le}
use Rattle.codes.specs.declared.refusal.Refusal.{Refusal}
use Rattle.codes.specs.declared.refusal.Refusal.TheVariants.{NotOpened}
use Rattle.wire.specs.Numbers.{most32}
use Rattle.session.specs.Sessions.{Opening, opening, session_messages}
use Rattle.session.specs.Carried.{carried, still_carried}
use Rattle.source.specs.Meanings.{Meaning, numbered_from}
use Rattle.recovery.specs.declared.recovery.Recovery.{Recovery}

-- messages that are numbered from s on, as far as the largest number
abbrev pub served_from : ℕ → List (List ℕ) → ℕ → Option (List ℕ)
served_from s messages n = cond (nat_le n most32) (numbered_from s messages n) None

-- an opening with a number of at least 1 gives the session, and numbers what is carried behind it
abbrev pub recovery_by : Option Opening → Result Meaning Refusal
recovery_by None = Err NotOpened
recovery_by (Some o) =
    cond (nat_le 1 o.number) (Ok (record { session = o.session; held = served_from o.number (carried o.follow) })) (Err NotOpened)

-- what session bytes mean as a source, or their refusal
abbrev pub recovery_of : List ℕ → Result Meaning Refusal
recovery_of bytes = recovery_by (opening (session_messages bytes))

-- what the code's reader means
abbrev pub meaning_of : Recovery → Meaning
meaning_of r = record { session = r.session; held = served_from r.first.number (still_carried r.first.messages) }
