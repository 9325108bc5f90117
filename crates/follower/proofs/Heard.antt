-- What a packet that was heard tells of its numbers, and how it comes out.
use Rattle.std.proofs.Common.{◌≡◌, ℕ, suc, pred, ◌+◌, ◌-◌, ◌≤◌, max, Bool, true, false, cond, ◌&&◌, eqb, ltb, leb, List, length, drop, Some, None, Ok, Err, Option, Result, sym, refl, ap, ◌∙◌, subst, sub-one, arith, leb-true}
use Rattle.std.proofs.lemmas.Bool.{and_parts}
use Rattle.codes.specs.declared.refusal.Refusal.{Refusal}
use Rattle.codes.specs.declared.refusal.Refusal.TheVariants as refusal
use Rattle.wire.specs.Numbers.{be16, be32, most16, most32}
use Rattle.wire.specs.Names.{session_of}
use Rattle.wire.specs.Packets.{Sent, heartbeat, messages, packet_of, behind, laid_out, well_numbered, unpacked, sent}
use Rattle.wire.specs.declared.packet.Packet.{Packet}
use Rattle.wire.specs.Names.{Session}
use Rattle.following.specs.Calls.{packet, counted, refused, accepted}
use Rattle.following.specs.Follower.{place_of, agrees, settled, no_counts, last_of, place_after, counts_of, on_packet, while_started, outcome}
use Rattle.following.specs.declared.answers.Counts.{Counts}
use Rattle.following.proofs.Shapes.{Shape, shape_up, place_after_shape}
use Rattle.following.proofs.Standing.{last_covers}
use Rattle.following.proofs.Readings.{number_from_one}
use Rattle.running.specs.Runners.{Reached, place_in, book_in, held_in}
use Rattle.running.specs.declared.runner.Runner.{Runner}
use Rattle.follower.specs.declared.follower.Follower.{Follower}
use Rattle.follower.specs.declared.state.Started.{Started as StartedOf}
use Rattle.follower.specs.declared.state.State.TheVariants as state
use Rattle.follower.specs.Modelled.{modelled, wanting_at, highest_of}
use Rattle.follower.specs.Model.{model, slots_of}
use Rattle.follower.specs.Steps.{bounded_by}
use Rattle.follower.proofs.Reaching.{by_history, stands, bounded}
use Rattle.follower.proofs.Started.{started_as, highest_within, started_shape}

-- a heartbeat tells a number that there can be
module _ (next : ℕ) (session : Session) where
  beat_number : (n : ℕ) (o : Option Session) → laid_out (heartbeat n) o ≡ Ok (heartbeat next session) → n ≡ next
  beat_number n None e = absurd cc
  beat_number n (Some s) e = cc

  no_data : (n : ℕ) (o : Option (List (List ℕ))) → laid_out (messages n) o ≡ Ok (heartbeat next session) → ⊥
  no_data n None e = cc
  no_data n (Some xs) e = cc

  behind_beat :
      (n count : ℕ) (rest : List ℕ) (t u : Bool) → well_numbered n count ≡ t →
      cond t (cond u (laid_out (heartbeat n) (session_of rest)) (laid_out (messages n) (unpacked count rest))) (Err refusal.PacketNumbers) ≡ Ok (heartbeat next session) →
      next ≤ most32
  behind_beat n count rest false u q e = absurd cc
  behind_beat n count rest true false q e = absurd (no_data n (unpacked count rest) e)
  behind_beat n count rest true true q e =
      let same : n ≡ next = beat_number n (session_of rest) e in
      let l : n + (count - 1) ≤ most32 = leb-true (n + (count - 1)) most32 (and_parts (leb 1 n && leb count most16) (leb (n + (count - 1)) most32) q).1 in
      omega arith

  packet_beat :
      (bytes : List ℕ) (t : Bool) →
      cond t (Err refusal.ShortPacket) (behind (be32 bytes 0) (be16 bytes 4) (drop 6 bytes)) ≡ Ok (heartbeat next session) →
      next ≤ most32
  packet_beat bytes true e = absurd cc
  packet_beat bytes false e =
      behind_beat (be32 bytes 0) (be16 bytes 4) (drop 6 bytes) (well_numbered (be32 bytes 0) (be16 bytes 4)) (eqb (be16 bytes 4) 0) refl e

  pub beat_within : (bytes : List ℕ) → packet_of bytes ≡ Ok (heartbeat next session) → next ≤ most32
  unfolding packet_of
  beat_within bytes e = packet_beat bytes (ltb (length bytes) 6) e

-- the number before the end of a packet's messages is the last
last_told : (number : ℕ) (ms : List (List ℕ)) (last : ℕ) → last + 1 ≡ number + length ms → last ≡ last_of number ms
last_told number ms last e = let p : last ≡ pred (number + length ms) = omega arith in p

-- nothing was counted
pub none_counted : (c : Counts) → c.taken ≡ 0 → c.repeated ≡ 0 → c.dropped ≡ 0 → c.unread ≡ 0 →
    record { taken = c.taken; repeated = c.repeated; dropped = c.dropped; unread = c.unread } ≡ no_counts
none_counted c t r d u = simp (t, r, d, u) refl

-- a packet of the code that was read
pub read_as : (p r : Packet) (bytes : List ℕ) → Ok (sent p) ≡ packet_of bytes → p ≡ r → Ok (sent r) ≡ packet_of bytes
read_as p r bytes e q = ap (λ x. Ok (sent x)) (sym q) ∙ e

-- a packet comes to a started follower
module _ (f : Follower) (st : StartedOf) (is : f.state ≡ state.Started st) where
  stood : place_of (wanting_at st.wanted (book_in f.runner)) (held_in f.runner) ≡ place_in f.runner (Ok st.wanted)
  stood = stands f.runner st.wanted

  heard :
      (bytes : List ℕ) (r : Result Sent Refusal) → r ≡ packet_of bytes →
      outcome (slots_of f) (model f) (packet bytes) ≡ on_packet (slots_of f) (started_as st (book_in f.runner) (held_in f.runner)) r
  unfolding outcome while_started
  heard bytes r p =
      ap (λ s. outcome (slots_of f) (modelled s (book_in f.runner) (held_in f.runner)) (packet bytes)) is
      ∙ ap (on_packet (slots_of f) (started_as st (book_in f.runner) (held_in f.runner))) (sym p)

  pub heard_refused : (bytes : List ℕ) (why : Refusal) → Err why ≡ packet_of bytes → outcome (slots_of f) (model f) (packet bytes) ≡ refused why
  heard_refused bytes why p = heard bytes (Err why) p

  module _ (bytes : List ℕ) (next : ℕ) (session : Session) (p : Ok (heartbeat next session) ≡ packet_of bytes) where
    beaten :
        (b : Bool) → agrees st.session session ≡ b →
        outcome (slots_of f) (model f) (packet bytes)
        ≡ cond b
        (accepted (settled (Some session) (max (highest_of st.heard) (pred next)) (place_in f.runner (Ok st.wanted))) (counted no_counts))
        (refused refusal.OtherSession)
    beaten b a =
        heard bytes (Ok (heartbeat next session)) p
        ∙ ap (λ q. cond (agrees st.session session) (accepted (settled (Some session) (max (highest_of st.heard) (pred next)) q) (counted no_counts)) (refused refusal.OtherSession)) stood
        ∙ ap
        (λ x.
        cond x
        (accepted (settled (Some session) (max (highest_of st.heard) (pred next)) (place_in f.runner (Ok st.wanted))) (counted no_counts))
        (refused refusal.OtherSession))
        a

    pub heard_other : agrees st.session session ≡ false → outcome (slots_of f) (model f) (packet bytes) ≡ refused refusal.OtherSession
    heard_other a = beaten false a

  -- a heartbeat: the highest number, and where the follower stands
  module _ (bytes : List ℕ) (next : ℕ) (session : Session) (p : Ok (heartbeat next session) ≡ packet_of bytes)
      (less top k : ℕ) (e : less ≡ next - 1) (high : top ≡ highest_of st.heard) (most : k ≡ max top less) where
    beat_top : k ≡ max (highest_of st.heard) less
    beat_top = most ∙ ap (λ i. max i less) high

    pub heard_beat :
        agrees st.session session ≡ true →
        outcome (slots_of f) (model f) (packet bytes) ≡ accepted (settled (Some session) k (place_in f.runner (Ok st.wanted))) (counted no_counts)
    heard_beat a =
        beaten bytes next session p true a
        ∙ ap (λ i. accepted (settled (Some session) i (place_in f.runner (Ok st.wanted))) (counted no_counts))
        (sym (beat_top ∙ ap (max (highest_of st.heard)) (e ∙ sub-one next)))

    pub beat_bounded : bounded_by (Ok st.wanted) k ≡ true
    beat_bounded =
        let n : next ≤ most32 = beat_within next session bytes (sym p) in
        let h : highest_of st.heard ≤ most32 = highest_within st in
        by_history (slots_of f) (model f) (bounded_by (Ok st.wanted) k) f.reached
        (λ r.
        bounded f.runner (Ok st.wanted) k (omega arith)
        (shape_up (place_in f.runner (Ok st.wanted)) (highest_of st.heard) k (omega arith) (started_shape (slots_of f) f.runner f.state st is r)))

  -- data: the highest number, and where the messages lead from there
  module _ (bytes : List ℕ) (number : ℕ) (ms : List (List ℕ)) (p : Ok (messages number ms) ≡ packet_of bytes)
      (last top k : ℕ) (e : last + 1 ≡ number + length ms) (high : top ≡ highest_of st.heard) (most : k ≡ max top last)
      (behind : Runner) (y : Reached) (r : place_in behind y ≡ place_after (slots_of f) (place_in f.runner (Ok st.wanted)) number ms) where
    data_top : k ≡ max (highest_of st.heard) last
    data_top = most ∙ ap (λ i. max i last) high

    pub heard_data :
        (counts : Counts) → counts ≡ counts_of (slots_of f) (place_in f.runner (Ok st.wanted)) number ms →
        outcome (slots_of f) (model f) (packet bytes) ≡ accepted (settled st.session k (place_in behind y)) (counted counts)
    heard_data counts n =
        heard bytes (Ok (messages number ms)) p
        ∙ ap
        (λ o.
        accepted (settled st.session (max (highest_of st.heard) (last_of number ms)) (place_after (slots_of f) o number ms))
        (counted (counts_of (slots_of f) o number ms)))
        stood
        ∙ ap
        (λ i. accepted (settled st.session i (place_after (slots_of f) (place_in f.runner (Ok st.wanted)) number ms)) (counted (counts_of (slots_of f) (place_in f.runner (Ok st.wanted)) number ms)))
        (sym (data_top ∙ ap (max (highest_of st.heard)) (last_told number ms last e)))
        ∙ ap (λ o. accepted (settled st.session k o) (counted (counts_of (slots_of f) (place_in f.runner (Ok st.wanted)) number ms))) (sym r)
        ∙ ap (λ o. accepted (settled st.session k (place_in behind y)) (counted o)) (sym n)

    pub data_bounded : last ≤ most32 → bounded_by y k ≡ true
    data_bounded m =
        let h : highest_of st.heard ≤ most32 = highest_within st in
        let l : last ≡ last_of number ms = last_told number ms last e in
        let c : number + length ms ≤ suc (last_of number ms) = last_covers number ms in
        let d : number + length ms ≤ suc last = subst (λ i. number + length ms ≤ suc i) (sym l) c in
        by_history (slots_of f) (model f) (bounded_by y k) f.reached
        (λ h'.
        bounded behind y k (omega arith)
        (subst (Shape k) (sym r)
        (place_after_shape (slots_of f) ms (place_in f.runner (Ok st.wanted)) k number (number_from_one number ms bytes (sym p)) (omega arith)
        (shape_up (place_in f.runner (Ok st.wanted)) (highest_of st.heard) k (omega arith) (started_shape (slots_of f) f.runner f.state st is h')))))
