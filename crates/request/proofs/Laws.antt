-- What a request is written as reads back, and nothing else is read as a request.
use Rattle.std.proofs.Common.{◌≡◌, ℕ, ◌+◌, ◌<◌, ◌≤◌, Bool, true, false, cond, eqb, List, [], ◌∷◌, ◌++◌, length, get_or, take, drop, Some, None, Ok, Err, Option, Result, sym, refl, ap, ◌∙◌, subst, arith}
use Rattle.std.proofs.lemmas.List.{append_assoc, length-append, length-take-le, length-drop, take-append-drop, take_all, take_at, drop_at, drop-drop, drop_more, drop_all}
use Rattle.std.proofs.lemmas.Bool.{cond-true, eqb-true, eq-eqb}
use Rattle.std.proofs.lemmas.Bool.Decides.{nat_tests}
use Rattle.codes.specs.declared.refusal.Refusal.{Refusal}
use Rattle.codes.specs.declared.refusal.Refusal.TheVariants.{NoRequest}
use Rattle.wire.specs.Numbers.{be16}
use Rattle.wire.specs.Names.{Session, session_of}
use Rattle.wire.specs.Messages.{part}
use Rattle.session.specs.Fields.{number_of, number_field}
use Rattle.session.proofs.Digits.{reads_back}
use Rattle.session.proofs.Exact.{field_length, number_within, field_exact}
use Rattle.request.specs.declared.login.Login.{Login}
use Rattle.request.specs.declared.request.Request.{Request}
use Rattle.request.specs.declared.request.Request.TheVariants as request
use Rattle.request.specs.Requests.{login_header, login_bytes, request_bytes, login_by, login_of, as_login, alone_as, letter_of, request_by, request_of, Sized, Allowed, Written, NoOther, Exactly}

-- what is written reads back: a field behind others
part_at : (front field rest : List ℕ) (at n : ℕ) → length front ≡ at → length field ≡ n → part at n (front ++ (field ++ rest)) ≡ field
part_at front field rest at n h k = ap (take n) (drop_at front (field ++ rest) at h) ∙ take_at field rest n k

-- the fields from the user on
grouped : (h u p s n : List ℕ) → h ++ u ++ p ++ s ++ n ≡ h ++ (u ++ (p ++ (s ++ n)))
grouped h u p s n = simp append_assoc

module _ (l : Login) (sized : Sized l) where
  joined : login_bytes l ≡ login_header ++ (l.user ++ (l.password ++ (l.session.bytes ++ number_field l.number)))
  joined = grouped login_header l.user l.password l.session.bytes (number_field l.number)

  ten : length (number_field l.number) ≡ 10
  ten = field_length l.number sized.number

  at19 : length (login_header ++ l.user ++ l.password) ≡ 19
  at19 = length-append (login_header ++ l.user) l.password ∙ omega (arith, sized.user, sized.password)

  at29 : length (login_header ++ l.user ++ l.password ++ l.session.bytes) ≡ 29
  at29 = length-append (login_header ++ l.user ++ l.password) l.session.bytes ∙ omega (arith, at19, sized.session)

  bytes_length : length (login_bytes l) ≡ 39
  bytes_length = length-append (login_header ++ l.user ++ l.password ++ l.session.bytes) (number_field l.number) ∙ omega (arith, at29, ten)

  at_user : part 3 6 (login_bytes l) ≡ l.user
  at_user = ap (part 3 6) joined ∙ part_at login_header l.user _ 3 6 refl sized.user

  at_password : part 9 10 (login_bytes l) ≡ l.password
  at_password = ap (part 9 10) joined ∙ part_at (login_header ++ l.user) l.password _ 9 10 (omega (arith, sized.user)) sized.password

  at_session : part 19 10 (login_bytes l) ≡ l.session.bytes
  at_session =
      let front = login_header ++ l.user ++ l.password in
      ap (part 19 10) (append_assoc front l.session.bytes (number_field l.number))
      ∙ part_at front l.session.bytes _ 19 10 at19 sized.session

  at_number : part 29 10 (login_bytes l) ≡ number_field l.number
  at_number =
      ap (take 10) (drop_at (login_header ++ l.user ++ l.password ++ l.session.bytes) _ 29 at29) ∙ take_all 10 _ (omega (arith, ten))

  fields_read : login_of (login_bytes l) ≡ Some l
  fields_read =
      let m = login_bytes l in
      let session : session_of (part 19 10 m) ≡ Some l.session = ap session_of at_session ∙ cond-true _ _ _ (eq-eqb (length l.session.bytes) 10 sized.session) in
      let number : number_of (part 29 10 m) ≡ Some l.number = ap number_of at_number ∙ reads_back l.number sized.number in
      cond-true _ _ _ (eq-eqb (length m) 39 bytes_length)
      ∙ ap (λ s. login_by m s (number_of (part 29 10 m))) session ∙ ap (login_by m (Some l.session)) number
      ∙ ap (λ u. Some (record { user = u; password = part 9 10 m; session = l.session; number = l.number })) at_user
      ∙ ap (λ p. Some (record { user = l.user; password = p; session = l.session; number = l.number })) at_password

  login_reads : request_of (login_bytes l) ≡ Ok (request.Login l)
  unfolding request_of
  login_reads =
      let letter : letter_of (login_bytes l) ≡ Ok 76 = cond-true _ _ _ (eq-eqb (length (login_bytes l)) 39 bytes_length) in
      ap (λ o. request_by o (login_bytes l)) letter ∙ ap as_login fields_read

pub written_reads : (r : Request) → Allowed r → request_of (request_bytes r) ≡ Ok r
unfolding request_of
written_reads (request.Login l) sized = login_reads l sized
written_reads request.Logout allowed = refl
written_reads request.Heartbeat allowed = refl

-- nothing else is read as a request
cond_ok : {X : Type 0} (t : Bool) (x y : X) → cond t (Ok x) (Err NoRequest) ≡ Ok y → (t ≡ true) × (x ≡ y)
cond_ok true x y e = (refl, cc)
cond_ok false x y e = cc

cond_some : {X : Type 0} (t : Bool) (o : Option X) (x : X) → cond t o None ≡ Some x → (t ≡ true) × (o ≡ Some x)
cond_some true o x e = (refl, e)
cond_some false o x e = cc

-- the first three bytes
module _ (m : List ℕ) (b : ℕ) (e : letter_of m ≡ Ok b) where
  size_is : length m ≡ 2 + be16 m 0
  size_is = grind (arith, nat_tests)

  size_some : 1 ≤ be16 m 0
  size_some = grind (arith, nat_tests)

  letter_is : get_or m 2 0 ≡ b
  letter_is = grind (arith, nat_tests)

  front_is : (size : ℕ) → size < 256 → length m ≡ 2 + size → m ≡ 0 ∷ size ∷ b ∷ drop 3 m
  front_is size small long =
      let high : get_or m 0 0 ≡ 0 = omega (arith, size_is) in
      let low : get_or m 1 0 ≡ size = omega (arith, size_is) in
      let letter = letter_is in
      let first = drop_more m 0 0 (omega arith) in
      let second = drop_more m 1 0 (omega (arith, size_is, size_some)) in
      let third = drop_more m 2 0 (omega (arith, size_is, size_some)) in
      cc

  alone_written : (q r : Request) → Allowed q → request_bytes q ≡ 0 ∷ 1 ∷ b ∷ [] → alone_as q m ≡ Ok r → Written m r
  alone_written q r allowed bytes h =
      let three = cond_ok (eqb (length m) 3) q r h in
      let long = eqb-true (length m) 3 three.0 in
      let none = drop_all 3 m (omega arith) in
      subst (Written m) three.1 (allowed, front_is 1 (omega arith) long ∙ ap (λ rest. 0 ∷ 1 ∷ b ∷ rest) none ∙ sym bytes)

-- the four fields
as_login_is : (o : Option Login) (r : Request) → as_login o ≡ Ok r → (l : Login) × (o ≡ Some l) × (request.Login l ≡ r)
as_login_is None r e = cc
as_login_is (Some l) r e = (l, refl, cc)

login_by_is : (m : List ℕ) (s : Option Session) (n : Option ℕ) (l : Login) → login_by m s n ≡ Some l
    → (l.user ≡ part 3 6 m) × (l.password ≡ part 9 10 m) × (s ≡ Some l.session) × (n ≡ Some l.number)
login_by_is m None n l e = cc
login_by_is m (Some s) None l e = cc
login_by_is m (Some s) (Some n) l e =
    let read : Login = record { user = part 3 6 m; password = part 9 10 m; session = s; number = n } in
    let same : l ≡ read = cc in
    (ap (λ (x : Login). x.user) same, ap (λ (x : Login). x.password) same, ap (λ (x : Login). Some x.session) (sym same), ap (λ (x : Login). Some x.number) (sym same))

-- a field, and what follows it
split : (m : List ℕ) (at n : ℕ) → drop at m ≡ part at n m ++ drop (at + n) m
split m at n = sym (take-append-drop n (drop at m)) ∙ ap (λ r. part at n m ++ r) (drop-drop n at m)

part_length : (m : List ℕ) (at n : ℕ) → at + n ≤ length m → length (part at n m) ≡ n
part_length m at n h = length-take-le n (drop at m) (omega (arith, length-drop at m))

login_read : (m : List ℕ) (l : Login) → letter_of m ≡ Ok 76 → login_of m ≡ Some l → Written m (request.Login l)
login_read m l e h =
    let read = cond_some (eqb (length m) 39) _ l h in
    let long = eqb-true (length m) 39 read.0 in
    let fields = login_by_is m _ _ l read.1 in
    let name = (cond_some (eqb (length (part 19 10 m)) 10) _ l.session fields.2).1 in
    let session : l.session.bytes ≡ part 19 10 m = ap (λ (o : Option Session). elim o [ None ↦ [] | Some s ↦ s.bytes ]) (sym name) in
    let number = field_exact (part 29 10 m) l.number (part_length m 29 10 (omega arith)) fields.3 in (
      record {
        user = ap length fields.0 ∙ part_length m 3 6 (omega arith);
        password = ap length fields.1 ∙ part_length m 9 10 (omega arith);
        session = ap length session ∙ part_length m 19 10 (omega arith);
        number = number_within (part 29 10 m) l.number fields.3;
      },
      front_is m 76 e 37 (omega arith) long
          ∙ ap (λ r. login_header ++ r) (split m 3 6
          ∙ ap (λ r. part 3 6 m ++ r) (split m 9 10
          ∙ ap (λ r. part 9 10 m ++ r) (split m 19 10
          ∙ ap (λ r. part 19 10 m ++ r) (sym (take_all 10 (drop 29 m) (omega (arith, length-drop 29 m))) ∙ number))))
          ∙ ap (λ u. login_header ++ (u ++ (part 9 10 m ++ (part 19 10 m ++ number_field l.number)))) (sym fields.0)
          ∙ ap (λ p. login_header ++ (l.user ++ (p ++ (part 19 10 m ++ number_field l.number)))) (sym fields.1)
          ∙ ap (λ s. login_header ++ (l.user ++ (l.password ++ (s ++ number_field l.number)))) (sym session)
          ∙ sym (grouped login_header l.user l.password l.session.bytes (number_field l.number)),
    )

-- by the letter
module _ (m : List ℕ) (b : ℕ) (r : Request) (e : letter_of m ≡ Ok b) where
  by_heartbeat : (t : Bool) → eqb b 82 ≡ t → cond t (alone_as request.Heartbeat m) (Err NoRequest) ≡ Ok r → Written m r
  by_heartbeat true t h = alone_written m b e request.Heartbeat r tt (ap (λ x. 0 ∷ 1 ∷ x ∷ []) (sym (eqb-true b 82 t))) h
  by_heartbeat false t h = cc

  by_logout : (t : Bool) → eqb b 79 ≡ t → cond t (alone_as request.Logout m) (cond (eqb b 82) (alone_as request.Heartbeat m) (Err NoRequest)) ≡ Ok r → Written m r
  by_logout true t h = alone_written m b e request.Logout r tt (ap (λ x. 0 ∷ 1 ∷ x ∷ []) (sym (eqb-true b 79 t))) h
  by_logout false t h = by_heartbeat (eqb b 82) refl h

  by_login : (t : Bool) → eqb b 76 ≡ t → cond t (as_login (login_of m)) (cond (eqb b 79) (alone_as request.Logout m) (cond (eqb b 82) (alone_as request.Heartbeat m) (Err NoRequest))) ≡ Ok r → Written m r
  by_login true t h =
      let l = as_login_is (login_of m) r h in
      subst (Written m) l.2 (login_read m l.0 (e ∙ ap Ok (eqb-true b 76 t)) l.1)
  by_login false t h = by_logout (eqb b 79) refl h

by_any : (m : List ℕ) (r : Request) (o : Result ℕ Refusal) → letter_of m ≡ o → request_by o m ≡ Ok r → Written m r
by_any m r (Ok b) e h = by_login m b r e (eqb b 76) refl h
by_any m r (Err refusal) e h = cc

read_written : (m : List ℕ) (r : Request) → request_of m ≡ Ok r → Written m r
unfolding request_of
read_written m r h = by_any m r (letter_of m) refl h

-- and no request has the one refusal
by_cond : {X : Type 0} (t : Bool) (x y : Result X Refusal) → NoOther x → NoOther y → NoOther (cond t x y)
by_cond true x y h k = h
by_cond false x y h k = k

by_fields : (o : Option Login) → NoOther (as_login o)
by_fields None = refl
by_fields (Some l) = tt

by_frame : (m : List ℕ) (o : Result ℕ Refusal) → NoOther o → NoOther (request_by o m)
by_frame m (Ok b) h =
    by_cond (eqb b 76) _ _ (by_fields (login_of m))
    (by_cond (eqb b 79) _ _ (by_cond (eqb (length m) 3) _ _ tt refl)
    (by_cond (eqb b 82) _ _ (by_cond (eqb (length m) 3) _ _ tt refl) refl))
by_frame m (Err refusal) h = h

no_other : (m : List ℕ) → NoOther (request_of m)
unfolding request_of
no_other m = by_frame m (letter_of m) (by_cond _ (Ok (get_or m 2 0)) (Err NoRequest) tt refl)

pub exactly : (m : List ℕ) (answer : Result Request Refusal) → answer ≡ request_of m → Exactly m answer
exactly m answer e =
    record {
      only = λ r h. read_written m r (sym e ∙ h);
      back = λ r w. e ∙ ap request_of w.1 ∙ written_reads r w.0;
      else = subst NoOther (sym e) (no_other m);
    }
