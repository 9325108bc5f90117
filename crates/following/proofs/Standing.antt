-- What holds of the state after every history: it is in order, and it fits every day to which all that was accepted belongs.
use Rattle.std.proofs.Common.{◌≡◌, ℕ, suc, pred, ◌+◌, ◌≤◌, max, List, length, Some, None, Option, refl, ap, ◌∙◌, subst, arith}
use Rattle.wire.specs.Packets.{packet_of}
use Rattle.wire.specs.Names.{Session}
use Rattle.following.specs.States.{Room, Held, Wanting, Started, State, dark, red, started, held_from}
use Rattle.following.specs.Calls.{Call}
use Rattle.following.specs.Follower.{
  Place,
  bookless,
  wanting,
  stopped,
  place_of,
  settled,
  Snapshot,
  last_of,
  run_held,
  place_after,
  snapshot_of,
  mended,
}
use Rattle.following.specs.Days.{
  Day,
  whole_run,
  after,
  since,
  highest_in,
  packet_top,
  snapshot_top,
  PacketBelongs,
  SnapshotBelongs,
  AllBelong,
}
use Rattle.following.proofs.Held.{Ordered, Mine, ordered_down, ordered_up, from_ordered, from_mine}
use Rattle.following.proofs.Shapes.{Shape, shape_up, run_held_shape, place_after_shape, mended_shape}
use Rattle.following.proofs.Fits.{Fits, run_held_fits, place_after_fits, mended_fits}
use Rattle.following.proofs.Readings.{number_from_one, snapshot_next, snapshot_alone_too}
use Rattle.following.proofs.Histories.{Kept, always}

-- the state is in order, where k is the highest number heard
abbrev pub Tidy : ℕ → State → Type 0
Tidy k dark = Unit {0}
Tidy k (red n c) = Unit {0}
Tidy k (started s) = (s.highest ≡ k) × Shape s.highest (place_of s.book s.held)

tidy_same : (s : State) (k k' : ℕ) → k ≡ k' → Tidy k s → Tidy k' s
tidy_same dark k k' e t = tt
tidy_same (red n c) k k' e t = tt
tidy_same (started s) k k' e t = (t.0 ∙ e, t.1)

settled_tidy : (p : Place) (s : Option Session) (k k' : ℕ) → k ≡ k' → Shape k p → Tidy k' (settled s k p)
unfolding settled
settled_tidy (bookless hs) s k k' e o = (e, o)
settled_tidy (wanting b hs) s k k' e o = (e, o)
settled_tidy (stopped n c) s k k' e o = tt

-- what is held is in order, whether there is a book or not
pub held_ordered : (b : Option Wanting) (hs : List Held) (k : ℕ) → Shape k (place_of b hs) → Ordered 0 k hs
held_ordered None hs k s = s
held_ordered (Some b) hs k s = ordered_down hs b.wanted 0 k (omega arith) s.1

-- after a snapshot whose End tells n
pub snapshot_shape :
    (room : Room) (s : Started) (snap : Snapshot) → Shape s.highest (place_of s.book s.held) →
    Shape (max s.highest (pred snap.next)) (run_held room snap.book snap.next (held_from snap.next s.held))
snapshot_shape room s snap o =
    let n : ℕ = snap.next in
    let hs = s.held in
    let k : ℕ = max s.highest (pred n) in
    let up : Ordered 0 k hs = ordered_up hs 0 s.highest k (omega arith) (held_ordered s.book hs s.highest o) in
    run_held_shape room (held_from n hs) snap.book n k (omega arith)
    (ordered_down (held_from n hs) (max 0 (pred n)) (pred n) k (omega arith) (from_ordered hs n 0 k up))

pred_covers : (n : ℕ) → n ≤ suc (pred n)
pred_covers n = omega arith

-- the numbers of a packet go up to its last
pub last_covers : (number : ℕ) (ms : List (List ℕ)) → number + length ms ≤ suc (last_of number ms)
last_covers number ms = pred_covers (number + length ms)

module _ (room : Room) where
  pub tidy_kept : Kept room (λ cs n s. Tidy (highest_in room cs) s)
  unfolding highest_in
  tidy_kept =
      record {
        at_dark = λ cs n. tt;
        at_one = (refl, (omega arith, tt));
        at_none = (refl, tt);
        by_lamp = λ cs n s t. tidy_same s (highest_in room cs) (max (highest_in room cs) 0) (omega arith) t;
        by_question = λ cs n s q t. tidy_same s (highest_in room cs) (max (highest_in room cs) 0) (omega arith) t;
        by_heartbeat = λ cs n s bytes next session e t.
            let k : ℕ = max s.highest (pred next) in
            let p : packet_top room (packet_of bytes) ≡ pred next = ap (packet_top room) e in
            let a : s.highest ≡ highest_in room cs = t.0 in
            settled_tidy (place_of s.book s.held) (Some session) k (max (highest_in room cs) (packet_top room (packet_of bytes)))
            (omega arith) (shape_up (place_of s.book s.held) s.highest k (omega arith) t.1);
        by_data = λ cs n s bytes number ms e t.
            let k : ℕ = max s.highest (last_of number ms) in
            let p : packet_top room (packet_of bytes) ≡ last_of number ms = ap (packet_top room) e in
            let a : s.highest ≡ highest_in room cs = t.0 in
            let c : number + length ms ≤ suc (last_of number ms) = last_covers number ms in
            settled_tidy (place_after room (place_of s.book s.held) number ms) s.session k
            (max (highest_in room cs) (packet_top room (packet_of bytes))) (omega arith)
            (place_after_shape room ms (place_of s.book s.held) k number (number_from_one number ms bytes e) (omega arith)
            (shape_up (place_of s.book s.held) s.highest k (omega arith) t.1));
        by_snapshot = λ cs n s bytes snap b e t.
            let k : ℕ = max s.highest (pred snap.next) in
            let p : snapshot_top room (snapshot_of room None bytes) ≡ pred snap.next =
            ap (snapshot_top room) (snapshot_alone_too room snap s.session bytes e) in
            let a : s.highest ≡ highest_in room cs = t.0 in
            settled_tidy (run_held room snap.book snap.next (held_from snap.next s.held)) (Some snap.session) k
            (max (highest_in room cs) (snapshot_top room (snapshot_of room None bytes))) (omega arith) (snapshot_shape room s snap t.1);
        by_repair = λ cs n s source budget t.
            let a : s.highest ≡ highest_in room cs = t.0 in
            settled_tidy (mended room source.held s.highest budget (place_of s.book s.held)).place (Some source.session)
            s.highest (max (highest_in room cs) 0) (omega arith)
            (mended_shape room source.held s.highest budget (place_of s.book s.held) t.1);
      }

  pub tidy : (history : List Call) → Tidy (highest_in room (since room history)) (after room history)
  tidy history = always room (λ cs n s. Tidy (highest_in room cs) s) tidy_kept history

  module _ (day : Day) where
    -- a known session is the day's
    abbrev pub Known : Option Session → Type 0
    Known None = Unit {0}
    Known (Some s) = s ≡ day.session

    -- the state tells nothing but the day
    abbrev pub Faithful : State → Type 0
    Faithful dark = Unit {0}
    Faithful (red n c) = Fits room day (stopped n c)
    Faithful (started s) = Known s.session × Fits room day (place_of s.book s.held)

    settled_faithful : (p : Place) (s : Option Session) (k : ℕ) → Known s → Fits room day p → Faithful (settled s k p)
    unfolding settled
    settled_faithful (bookless hs) s k a f = (a, f)
    settled_faithful (wanting b hs) s k a f = (a, f)
    settled_faithful (stopped n c) s k a f = f

    held_mine : (b : Option Wanting) (hs : List Held) → Fits room day (place_of b hs) → Mine day hs
    held_mine None hs f = f
    held_mine (Some b) hs f = f.2

    faithful_kept : Kept room (λ cs n s. AllBelong room day cs → Faithful s)
    unfolding AllBelong whole_run
    faithful_kept =
        record {
          at_dark = λ cs n ok. tt;
          at_one = λ ok. (tt, (omega arith, refl, tt));
          at_none = λ ok. (tt, tt);
          by_lamp = λ cs n s ih ok. ih ok.1;
          by_question = λ cs n s q ih ok. ih ok.1;
          by_heartbeat = λ cs n s bytes next session e ih ok.
              let ours : session ≡ day.session = subst (PacketBelongs room day) e ok.0 in
              settled_faithful (place_of s.book s.held) (Some session) (max s.highest (pred next)) ours (ih ok.1).1;
          by_data = λ cs n s bytes number ms e ih ok.
              let i = ih ok.1 in
              settled_faithful (place_after room (place_of s.book s.held) number ms) s.session
              (max s.highest (last_of number ms)) i.0
              (place_after_fits room day ms (place_of s.book s.held) number (subst (PacketBelongs room day) e ok.0) i.1);
          by_snapshot = λ cs n s bytes snap b e ih ok.
              let ours = subst (SnapshotBelongs room day) (snapshot_alone_too room snap s.session bytes e) ok.0 in
              settled_faithful (run_held room snap.book snap.next (held_from snap.next s.held)) (Some snap.session)
              (max s.highest (pred snap.next)) ours.0
              (run_held_fits room day (held_from snap.next s.held) snap.book snap.next
              (snapshot_next room snap s.session bytes e).0 ours.1
              (from_mine s.held day snap.next (held_mine s.book s.held (ih ok.1).1)));
          by_repair = λ cs n s source budget ih ok.
              settled_faithful (mended room source.held s.highest budget (place_of s.book s.held)).place (Some source.session)
              s.highest ok.0.0
              (mended_fits room day source.held s.highest budget (place_of s.book s.held) ok.0.1 (ih ok.1).1);
        }

    pub faithful : (history : List Call) → AllBelong room day (since room history) → Faithful (after room history)
    faithful history = always room (λ cs n s. AllBelong room day cs → Faithful s) faithful_kept history
