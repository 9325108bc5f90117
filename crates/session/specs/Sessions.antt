-- The messages of a session, and its opening.
use Rattle.std.specs.Prelude.{◌≡◌, ℕ, zero, suc, ◌+◌, ◌-◌, cond, ◌||◌, List, [], ◌∷◌, length, take, drop, Some, None, Option, ◌==◌, slice_index}
use Rattle.wire.specs.Names.{Session, session_of}
use Rattle.session.specs.declared.messages.SessionMessage.{SessionMessage}
use Rattle.session.specs.declared.messages.SessionMessages.{SessionMessages}
use Rattle.session.specs.declared.messages.Opened.{Opened}
use Rattle.wire.specs.Numbers.{most16}
use Rattle.wire.specs.Frames.{front_length}
use Rattle.session.specs.Fields.{number_of}

-- a session message: its letter and the data behind it
pub record Framed : Type 0 where
  pub letter : ℕ
  pub body : List ℕ

-- the length counts the letter: 0 has none, and a length above 32,767 is cut
abbrev pub session_length : List ℕ → Option ℕ
session_length = front_length 1 most16

abbrev pub first_of : ℕ → List ℕ → Framed
first_of k bytes = record { letter = slice_index bytes 2; body = take (k - 1) (drop 3 bytes) }

-- the whole messages in turn, up to the end of the bytes, a cut message or a length of 0
unfoldable pub framed_within : ℕ → List ℕ → List Framed
framed_within zero bytes = []
framed_within (suc n) bytes =
    elim (session_length bytes) [ None ↦ [] | Some k ↦ first_of k bytes ∷ framed_within n (drop (2 + k) bytes) ]

-- there are fewer of them than bytes
unfoldable pub session_messages : List ℕ → List Framed
session_messages bytes = framed_within (length bytes) bytes

-- what a session opens with: its name, a number, and the messages that follow
pub record Opening : Type 0 where
  pub session : Session
  pub number : ℕ
  pub follow : List Framed

abbrev pub opening_by : Option Session → Option ℕ → List Framed → Option Opening
opening_by None number follow = None
opening_by (Some session) None follow = None
opening_by (Some session) (Some number) follow = Some (record { session = session; number = number; follow = follow })

-- Login Accepted has 31 bytes of data: the session, a number field, and what is not read
abbrev pub login_accepted : List ℕ → List Framed → Option Opening
login_accepted body follow =
    cond (length body == 31) (opening_by (session_of (take 10 body)) (number_of (take 10 (drop 10 body))) follow) None

-- debug (+) and heartbeat (H) messages are skipped, and then comes Login Accepted (A)
unfoldable pub opening : List Framed → Option Opening
opening [] = None
opening (m ∷ ms) =
    cond (m.letter == 43 || m.letter == 72) (opening ms)
    (cond (m.letter == 65) (login_accepted m.body ms) None)

-- what the code's session messages say
abbrev pub framed : SessionMessage → Framed
framed m = record { letter = m.letter; body = m.body.now }

abbrev pub rest_of : SessionMessages → List Framed
rest_of s = session_messages s.bytes.now

-- one step: the first message that is left comes, or none is left
abbrev pub Read : SessionMessages → Option SessionMessage → SessionMessages → Type 0
Read s None t = (rest_of s ≡ []) × (t ≡ s)
Read s (Some m) t = rest_of s ≡ framed m ∷ rest_of t

-- without the debug (+) and heartbeat (H) messages in front
abbrev pub told : List Framed → List Framed
told [] = []
told (m ∷ ms) = cond (m.letter == 43 || m.letter == 72) (told ms) (m ∷ ms)

-- a step past those in front: the first other message that is left comes, or none is left
abbrev pub Tells : SessionMessages → Option SessionMessage → SessionMessages → Type 0
Tells s None t = told (rest_of s) ≡ []
Tells s (Some m) t = told (rest_of s) ≡ framed m ∷ rest_of t

abbrev pub opened : Opened → Opening
opened o = record { session = o.session; number = o.number; follow = rest_of o.messages }
