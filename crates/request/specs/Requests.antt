-- A client's requests: the bytes that each is written as, and what any bytes are read as.
use Rattle.std.specs.Prelude.{◌≡◌, ℕ, ◌+◌, ◌≤◌, cond, ◌&&◌, List, [], ◌∷◌, ◌++◌, length, IfErr, Some, None, Ok, Err, Option, Result, ◌==◌, nat_le, slice_index}
use Rattle.std.specs.Option.{option_map, ok_or}
use Rattle.codes.specs.declared.refusal.Refusal.{Refusal}
use Rattle.codes.specs.declared.refusal.Refusal.TheVariants.{NoRequest}
use Rattle.wire.specs.Answers.{through}
use Rattle.wire.specs.Numbers.{most32, be16}
use Rattle.wire.specs.Names.{Session, session_of}
use Rattle.wire.specs.Messages.{part}
use Rattle.session.specs.Fields.{number_of, number_field}
use Rattle.request.specs.declared.login.Login.{Login}
use Rattle.request.specs.declared.request.Request.{Request}
use Rattle.request.specs.declared.request.Request.TheVariants as request
use Rattle.request.specs.declared.ticket.Ticket.{Ticket}

-- a length in 2 bytes, and the letter
abbrev pub login_header : List ℕ
login_header = 0 ∷ 37 ∷ 76 ∷ []

abbrev pub logout_bytes : List ℕ
logout_bytes = 0 ∷ 1 ∷ 79 ∷ []

abbrev pub heartbeat_bytes : List ℕ
heartbeat_bytes = 0 ∷ 1 ∷ 82 ∷ []

-- a login: the user, the password and the session as given, and the number field
abbrev pub login_bytes : Login → List ℕ
login_bytes l = login_header ++ l.user ++ l.password ++ l.session.bytes ++ number_field l.number

-- a number above the limit is not written
abbrev pub login_written : Login → Result (List ℕ) Refusal
login_written l = cond (nat_le l.number most32) (Ok (login_bytes l)) (Err NoRequest)

-- the bytes that a request is written as
abbrev pub request_bytes : Request → List ℕ
request_bytes (request.Login l) = login_bytes l
request_bytes request.Logout = logout_bytes
request_bytes request.Heartbeat = heartbeat_bytes

-- the user at 3, the password at 9, the session at 19, the number field at 29
abbrev pub login_by : List ℕ → Option Session → Option ℕ → Option Login
login_by m None number = None
login_by m (Some session) None = None
login_by m (Some session) (Some number) =
    Some (record { user = part 3 6 m; password = part 9 10 m; session = session; number = number })

abbrev pub login_of : List ℕ → Option Login
login_of m = cond (length m == 39) (login_by m (session_of (part 19 10 m)) (number_of (part 29 10 m))) None

abbrev pub as_login : Option Login → Result Request Refusal
as_login o = ok_or (option_map request.Login o) NoRequest

abbrev pub alone_as : Request → List ℕ → Result Request Refusal
alone_as r m = cond (length m == 3) (Ok r) (Err NoRequest)

-- the letter at 2, where the length at 0 is that of all the bytes behind it, 1 to 37
abbrev pub letter_of : List ℕ → Result ℕ Refusal
letter_of m = cond (nat_le 1 (be16 m 0) && nat_le (be16 m 0) 37 && length m == 2 + be16 m 0) (Ok (slice_index m 2)) (Err NoRequest)

-- L, O, R
abbrev pub by_letter : ℕ → List ℕ → Result Request Refusal
by_letter letter m =
    cond (letter == 76) (as_login (login_of m))
    (cond (letter == 79) (alone_as request.Logout m)
    (cond (letter == 82) (alone_as request.Heartbeat m)
    (Err NoRequest)))

abbrev pub request_by : Result ℕ Refusal → List ℕ → Result Request Refusal
request_by (Ok letter) m = by_letter letter m
request_by (Err refusal) m = Err refusal

-- what any bytes are read as: a login, a logout, a heartbeat, or no request
unfoldable pub request_of : List ℕ → Result Request Refusal
request_of m = request_by (letter_of m) m

-- fields of their sizes, as every login of the code has them, and a number within the limit
pub record Sized (l : Login) : Type 0 where
  pub user : length l.user ≡ 6
  pub password : length l.password ≡ 10
  pub session : length l.session.bytes ≡ 10
  pub number : l.number ≤ most32

abbrev pub Allowed : Request → Type 0
Allowed (request.Login l) = Sized l
Allowed request.Logout = Unit {0}
Allowed request.Heartbeat = Unit {0}

-- a request that is allowed, and the bytes that it is written as
abbrev pub Written : List ℕ → Request → Type 0
Written bytes r = Allowed r × (bytes ≡ request_bytes r)

-- the one refusal
abbrev pub NoOther : {X : Type 0} → Result X Refusal → Type 0
NoOther answer = IfErr answer (λ refusal. refusal ≡ NoRequest)

-- the answer is a request only where the bytes are what it is written as, each such request reads back,
-- and all else is refused
pub record Exactly (bytes : List ℕ) (answer : Result Request Refusal) : Type 0 where
  pub only : (r : Request) → answer ≡ Ok r → Written bytes r
  pub back : (r : Request) → Written bytes r → answer ≡ Ok r
  pub else : NoOther answer

-- what an opening sends, without its ticket
abbrev pub sent : Result (Ticket × List ℕ) Refusal → Result (List ℕ) Refusal
sent = through (λ opened. opened.1)
