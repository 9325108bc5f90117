-- What the bytes of an accepted packet or snapshot tell of their numbers and session.
use Rattle.std.proofs.Common.{◌≡◌, ℕ, ◌+◌, ◌-◌, ◌≤◌, Bool, true, false, cond, ◌&&◌, ◌||◌, eqb, ltb, leb, List, [], ◌∷◌, length, drop, Some, None, Ok, Err, Option, Result, refl, ap, ◌∙◌, subst, arith, leb-true}
use Rattle.std.proofs.lemmas.Bool.{and_parts}
use Rattle.codes.specs.declared.cause.Cause.{Cause}
use Rattle.codes.specs.declared.cause.Cause.TheVariants.{Length, Field, InSnapshot}
use Rattle.codes.specs.declared.refusal.Refusal.TheVariants as refusal
use Rattle.wire.specs.Answers.{through}
use Rattle.wire.specs.Numbers.{be16, be32, most16, most32}
use Rattle.wire.specs.Names.{session_of}
use Rattle.wire.specs.Messages.{Said, Told, said, end, end_at, of_length, letter_of, feed_message, snapshot_message}
use Rattle.wire.specs.Packets.{heartbeat, messages, packet_of, behind, laid_out, well_numbered, unpacked}
use Rattle.wire.specs.Names.{Session}
use Rattle.session.specs.Sessions.{Opening, session_messages, opening}
use Rattle.session.specs.Carried.{carried}
use Rattle.book.specs.Plain.{Plain, Slots, empty, done, going, done_there_if_read, ran_there}
use Rattle.book.specs.Runs.{and_then, unless_ended, run_there}
use Rattle.following.specs.States.{Room}
use Rattle.following.specs.Follower.{Snapshot, agrees, of_mode, completed, opened, snapshot_of}

-- data have a number from 1 on
module _ (number : ℕ) (ms : List (List ℕ)) where
  data_number : (n : ℕ) (o : Option (List (List ℕ))) → laid_out (messages n) o ≡ Ok (messages number ms) → n ≡ number
  data_number n None e = absurd cc
  data_number n (Some xs) e = cc

  no_heartbeat : (n : ℕ) (o : Option Session) → laid_out (heartbeat n) o ≡ Ok (messages number ms) → ⊥
  no_heartbeat n None e = cc
  no_heartbeat n (Some s) e = cc

  behind_number :
      (n count : ℕ) (rest : List ℕ) (t u : Bool) → well_numbered n count ≡ t →
      cond t (cond u (laid_out (heartbeat n) (session_of rest)) (laid_out (messages n) (unpacked count rest))) (Err refusal.PacketNumbers) ≡ Ok (messages number ms) →
      1 ≤ number
  behind_number n count rest false u q e = absurd cc
  behind_number n count rest true true q e = absurd (no_heartbeat n (session_of rest) e)
  behind_number n count rest true false q e =
      let same : n ≡ number = data_number n (unpacked count rest) e in
      let both = and_parts (leb 1 n && leb count most16) (leb (n + (count - 1)) most32) q in
      let one : 1 ≤ n = leb-true 1 n (and_parts (leb 1 n) (leb count most16) both.0).0 in
      omega arith

  packet_number :
      (bytes : List ℕ) (t : Bool) →
      cond t (Err refusal.ShortPacket) (behind (be32 bytes 0) (be16 bytes 4) (drop 6 bytes)) ≡ Ok (messages number ms) →
      1 ≤ number
  packet_number bytes true e = absurd cc
  packet_number bytes false e =
      behind_number (be32 bytes 0) (be16 bytes 4) (drop 6 bytes) (well_numbered (be32 bytes 0) (be16 bytes 4)) (eqb (be16 bytes 4) 0) refl e

  pub number_from_one : (bytes : List ℕ) → packet_of bytes ≡ Ok (messages number ms) → 1 ≤ number
  unfolding packet_of
  number_from_one bytes e = packet_number bytes (ltb (length bytes) 6) e

-- the number of an End, if it was met
abbrev ended : Result (Option ℕ × Plain) Cause → Option ℕ
ended (Ok p) = p.0
ended (Err c) = None

-- an End tells a number that there can be
abbrev pub CanBe : ℕ → Type 0
CanBe n = (1 ≤ n) × (n ≤ most32)

module _ (n : ℕ) where
  not_said : (r : Result Said Cause) → through said r ≡ Ok (end n) → ⊥
  not_said (Ok s) e = cc
  not_said (Err c) e = cc

  end_number :
      (m : List ℕ) (t : Bool) → (leb 1 (be32 m 5) && leb (be32 m 5) most32) ≡ t →
      cond {A = Result Told Cause} t (Ok (end (be32 m 5))) (Err Field) ≡ Ok (end n) → CanBe n
  end_number m false q e = absurd cc
  end_number m true q e =
      let same : be32 m 5 ≡ n = cc in
      let both = and_parts (leb 1 (be32 m 5)) (leb (be32 m 5) most32) q in
      subst CanBe same (leb-true 1 (be32 m 5) both.0, leb-true (be32 m 5) most32 both.1)

  of_nine : (m : List ℕ) (t : Bool) → cond {A = Result Told Cause} t (end_at m) (Err Length) ≡ Ok (end n) → CanBe n
  of_nine m false e = absurd cc
  of_nine m true e = end_number m (leb 1 (be32 m 5) && leb (be32 m 5) most32) refl e

  by_letter :
      (m : List ℕ) (t u v : Bool) →
      cond {A = Result Told Cause} t (Err Length) (cond u (Err InSnapshot) (cond v (of_length 9 m (end_at m)) (through said (feed_message m)))) ≡ Ok (end n) →
      CanBe n
  by_letter m true u v e = absurd cc
  by_letter m false true v e = absurd cc
  by_letter m false false true e = of_nine m (eqb (length m) 9) e
  by_letter m false false false e = absurd (not_said (feed_message m) e)

  message_end : (m : List ℕ) → snapshot_message m ≡ Ok (end n) → CanBe n
  unfolding snapshot_message
  message_end m e = by_letter m (ltb (length m) 5) (eqb (letter_of m) 69 || eqb (letter_of m) 88) (eqb (letter_of m) 71) e

  module _ (after : Plain) where
    still_going : (r : Result Plain Cause) → going r ≡ Ok (Some n, after) → ⊥
    still_going (Ok b) e = cc (ap ended e)
    still_going (Err c) e = cc

    read_end :
        (slots : Slots) (book : Plain) (m : List ℕ) (r : Result Told Cause) → snapshot_message m ≡ r →
        done_there_if_read slots book r ≡ Ok (Some n, after) → CanBe n
    read_end slots book m (Err c) q e = absurd cc
    read_end slots book m (Ok (said s)) q e = absurd (still_going (done slots book s) e)
    read_end slots book m (Ok (end k)) q e =
        let same : k ≡ n = cc (ap ended e) in
        message_end m (q ∙ ap (λ i. Ok (end i)) same)

    ran_end : (slots : Slots) (book : Plain) (m : List ℕ) → ran_there slots book m ≡ Ok (Some n, after) → CanBe n
    unfolding ran_there
    ran_end slots book m e = read_end slots book m (snapshot_message m) refl e

    pub run_end : (slots : Slots) (ms : List (List ℕ)) (book : Plain) → run_there slots ms book ≡ Ok (Some n, after) → CanBe n
    unfolding run_there
    run_end slots [] book e = absurd (cc (ap ended e))
    run_end slots (m ∷ ms) book e = go (ran_there slots book m) refl (run_end slots ms) e
      where
        go :
            (r : Result (Option ℕ × Plain) Cause) → ran_there slots book m ≡ r →
            ((b : Plain) → run_there slots ms b ≡ Ok (Some n, after) → CanBe n) →
            and_then r (unless_ended (run_there slots ms)) ≡ Ok (Some n, after) → CanBe n
        go (Err c) q ih e' = absurd cc
        go (Ok (None, b)) q ih e' = ih b e'
        go (Ok (Some k, b)) q ih e' = ran_end slots book m (q ∙ e')

module _ (room : Room) (snap : Snapshot) where
  completed_next :
      (session : Session) (slots : Slots) (ms : List (List ℕ)) (r : Result (Option ℕ × Plain) Cause) →
      run_there slots ms empty ≡ r → completed session r ≡ Ok snap → CanBe snap.next
  completed_next session slots ms (Err c) q e = absurd cc
  completed_next session slots ms (Ok (None, b)) q e = absurd cc
  completed_next session slots ms (Ok (Some k, b)) q e =
      let got : record { session = session; next = k; book = b } ≡ snap = cc in
      let same : k ≡ snap.next = ap (λ (x : Snapshot). x.next) got in
      subst CanBe same (run_end k b slots ms empty q)

  opened_next : (known : Option Session) (o : Option Opening) → opened room known o ≡ Ok snap → CanBe snap.next
  opened_next known None e = absurd cc
  opened_next known (Some o) e = go (agrees known o.session) e
    where
      go :
          (t : Bool) →
          cond t (completed o.session (run_there room.for_book (carried o.follow) empty)) (Err refusal.OtherSession) ≡ Ok snap →
          CanBe snap.next
      go true e' = completed_next o.session room.for_book (carried o.follow) (run_there room.for_book (carried o.follow) empty) refl e'
      go false e' = absurd cc

  pub snapshot_next : (known : Option Session) (bytes : List ℕ) → snapshot_of room known bytes ≡ Ok snap → CanBe snap.next
  unfolding snapshot_of
  snapshot_next known bytes e = opened_next known (of_mode (opening (session_messages bytes))) e

  -- it says the same to a follower that knows no session
  opened_alone : (known : Option Session) (o : Option Opening) → opened room known o ≡ Ok snap → opened room None o ≡ Ok snap
  unfolding agrees
  opened_alone known None e = e
  opened_alone known (Some o) e = go (agrees known o.session) e
    where
      go :
          (t : Bool) →
          cond t (completed o.session (run_there room.for_book (carried o.follow) empty)) (Err refusal.OtherSession) ≡ Ok snap →
          completed o.session (run_there room.for_book (carried o.follow) empty) ≡ Ok snap
      go true e' = e'
      go false e' = absurd cc

  pub snapshot_alone_too : (known : Option Session) (bytes : List ℕ) → snapshot_of room known bytes ≡ Ok snap → snapshot_of room None bytes ≡ Ok snap
  unfolding snapshot_of
  snapshot_alone_too known bytes e = opened_alone known (of_mode (opening (session_messages bytes))) e
