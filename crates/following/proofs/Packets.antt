-- What the messages of one packet come to: the wanted one is taken, and a drop means that no slot is free.
use Rattle.std.proofs.Common.{◌≡◌, ℕ, suc, ◌+◌, ◌<◌, ◌≤◌, max, Bool, true, false, cond, eqb, ltb, ◌⊎◌, List, [], ◌∷◌, length, Some, Ok, Err, Option, Result, sym, refl, subst, inl, inr, ⊎_elim, arith, ltb-false, ltb-true, eqb-true}
use borrow.Author.Tests.{eqb-false}
use Rattle.codes.specs.declared.cause.Cause.{Cause}
use Rattle.codes.specs.declared.refusal.Refusal.{Refusal}
use Rattle.codes.specs.declared.refusal.Refusal.TheVariants as refusal
use Rattle.wire.specs.Packets.{Sent, heartbeat, messages, packet_of}
use Rattle.wire.specs.Names.{Session}
use Rattle.book.specs.Plain.{Plain, ran}
use Rattle.following.specs.States.{Room, Held, is_held, with_held, Wanting, Started, State, dark, red, started}
use Rattle.following.specs.Calls.{counted, Outcome, refused, accepted}
use Rattle.following.specs.Follower.{
  Place,
  bookless,
  wanting,
  stopped,
  place_of,
  agrees,
  settled,
  last_of,
  Fate,
  taken,
  repeated,
  dropped,
  unread,
  count_one,
  no_counts,
  going_on,
  run_held,
  run_wanted,
  treated,
  place_after,
  counts_of,
  on_packet,
  while_started,
  while_dark,
  while_red,
  outcome,
}
use Rattle.following.specs.Law.{held_of, Carries, Beyond, WantedIsTaken, DropsOnlyWhenFull}
use Rattle.following.specs.declared.answers.Counts.{Counts}

module _ (room : Room) where
  -- the ways that a message of a packet can go where there is a book
  treated_ways :
      (P : Fate × Place → Type 0) (b : Wanting) (hs : List Held) (i : ℕ) (x : List ℕ) →
      (i < b.wanted → P (repeated, wanting b hs)) →
      (i ≡ b.wanted → P (taken, run_wanted room b x hs)) →
      (b.wanted < i → P (repeated, wanting b hs)) →
      (b.wanted < i → length hs < room.for_held → P (taken, wanting b (with_held i x hs))) →
      (b.wanted < i → room.for_held ≤ length hs → P (dropped, wanting b hs)) →
      P (treated room (wanting b hs) i x)
  unfolding treated
  treated_ways P b hs i x below at again held full =
      go (ltb i b.wanted) refl (eqb i b.wanted) refl (is_held i hs) (ltb (length hs) room.for_held) refl
    where
      above : ltb i b.wanted ≡ false → eqb i b.wanted ≡ false → b.wanted < i
      above q q' =
          let l : b.wanted ≤ i = ltb-false i b.wanted q in
          let n : i ≡ b.wanted → ⊥ = eqb-false i b.wanted q' in
          omega arith

      go :
          (t : Bool) → ltb i b.wanted ≡ t → (u : Bool) → eqb i b.wanted ≡ u → (v r : Bool) → ltb (length hs) room.for_held ≡ r →
          P
          (cond {A = Fate × Place} t (repeated, wanting b hs)
          (cond u (taken, run_wanted room b x hs)
          (cond v (repeated, wanting b hs) (cond r (taken, wanting b (with_held i x hs)) (dropped, wanting b hs)))))
      go true q u q' v r q'' = below (ltb-true i b.wanted q)
      go false q true q' v r q'' = at (eqb-true i b.wanted q')
      go false q false q' true r q'' = again (above q q')
      go false q false q' false true q'' = held (above q q') (ltb-true (length hs) room.for_held q'')
      go false q false q' false false q'' = full (above q q') (ltb-false (length hs) room.for_held q'')

  module _ (w : ℕ) where
    -- the book wants more than w, or was stopped
    abbrev Past : Place → Type 0
    Past (bookless hs) = ⊥
    Past (wanting b hs) = w < b.wanted
    Past (stopped n c) = Unit {0}

    run_held_past : (hs : List Held) (b : Plain) (v : ℕ) → w < v → Past (run_held room b v hs)
    unfolding run_held
    run_held_past [] b v l = l
    run_held_past (h ∷ hs) b v l = go (eqb h.number v) (ran room.for_book b h.bytes) (λ b'. run_held_past hs b' (suc v) (omega arith))
      where
        go :
            (t : Bool) (r : Result Plain Cause) → ((b' : Plain) → Past (run_held room b' (suc v) hs)) →
            Past (cond t (going_on v r (λ b'. run_held room b' (suc v) hs)) (wanting (record { book = b; wanted = v }) (h ∷ hs)))
        go false r ih = l
        go true (Ok b') ih = ih b'
        go true (Err c) ih = tt

    run_wanted_past : (b : Wanting) (x : List ℕ) (hs : List Held) → w ≤ b.wanted → Past (run_wanted room b x hs)
    unfolding run_wanted
    run_wanted_past b x hs l = go (ran room.for_book b.book x)
      where
        go : (r : Result Plain Cause) → Past (going_on b.wanted r (λ b'. run_held room b' (suc b.wanted) hs))
        go (Ok b') = run_held_past hs b' (suc b.wanted) (omega arith)
        go (Err c) = tt

    treated_past : (p : Place) (i : ℕ) (x : List ℕ) → Past p → Past (treated room p i x).1
    unfolding treated
    treated_past (bookless hs) i x l = absurd l
    treated_past (stopped n c) i x l = tt
    treated_past (wanting b hs) i x l =
        treated_ways (λ r. Past r.1) b hs i x (λ a. l) (λ a. run_wanted_past b x hs (omega arith)) (λ a. l) (λ a f. l) (λ a f. l)

    place_after_past : (ms : List (List ℕ)) (p : Place) (k : ℕ) → Past p → Past (place_after room p k ms)
    unfolding place_after
    place_after_past [] p k l = l
    place_after_past (m ∷ ms) p k l = place_after_past ms (treated room p k m).1 (suc k) (treated_past p k m l)

  -- messages below the wanted one change nothing; that one runs
  place_after_takes :
      (ms : List (List ℕ)) (b : Wanting) (hs : List Held) (k : ℕ) →
      k ≤ b.wanted → suc b.wanted ≤ k + length ms → Past b.wanted (place_after room (wanting b hs) k ms)
  unfolding place_after
  place_after_takes [] b hs k l u = absurd (omega arith)
  place_after_takes (m ∷ ms) b hs k l u =
      treated_ways (λ r. Past b.wanted (place_after room r.1 (suc k) ms)) b hs k m
      (λ a. place_after_takes ms b hs (suc k) (omega arith) (omega arith))
      (λ a. place_after_past b.wanted ms (run_wanted room b m hs) (suc k) (run_wanted_past b.wanted b m hs (omega arith)))
      (λ a. absurd (omega arith)) (λ a f. absurd (omega arith)) (λ a f. absurd (omega arith))

  settled_beyond : (w : ℕ) (p : Place) (s : Option Session) (k : ℕ) → Past w p → Beyond w (settled s k p)
  unfolding settled
  settled_beyond w (bookless hs) s k l = absurd l
  settled_beyond w (wanting b hs) s k l = (b, refl, l)
  settled_beyond w (stopped n c) s k l = tt

  wanted_taken :
      (s : Started) (b : Wanting) (r : Result Sent Refusal) → s.book ≡ Some b → Carries r b.wanted →
      (next : State) × (c : Counts) × (on_packet room s r ≡ accepted next (counted c)) × Beyond b.wanted next
  wanted_taken s b (Err why) e c = absurd c
  wanted_taken s b (Ok (heartbeat next session)) e c = absurd c
  wanted_taken s b (Ok (messages number ms)) e c = (
    _,
    _,
    refl,
    settled_beyond b.wanted _ s.session _
        (subst (λ o. Past b.wanted (place_after room (place_of o s.held) number ms)) (sym e)
        (place_after_takes ms b s.held number c.0 c.1)),
  )

  -- no slot is free, and no number from k on is wanted
  abbrev Full : ℕ → Place → Type 0
  Full k (bookless hs) = room.for_held ≤ length hs
  Full k (wanting b hs) = (b.wanted < k) × (room.for_held ≤ length hs)
  Full k (stopped n c) = ⊥

  -- it stays so, and a drop finds it so
  abbrev Fills : ℕ → Place → Fate × Place → Type 0
  Fills k p r = ((r.0 ≡ dropped) ⊎ Full k p) → Full (suc k) r.1

  not_dropped : (f : Fate) (A : Type 0) → (f ≡ dropped → ⊥) → (f ≡ dropped) ⊎ A → A
  not_dropped f A n (inl e) = absurd (n e)
  not_dropped f A n (inr a) = a

  not_taken : taken ≡ dropped → ⊥
  not_taken e = cc

  not_repeated : repeated ≡ dropped → ⊥
  not_repeated e = cc

  treated_fills : (p : Place) (k : ℕ) (x : List ℕ) → Fills k p (treated room p k x)
  unfolding treated
  treated_fills (stopped n c) k x = λ d. not_dropped unread ⊥ (λ e. cc) d
  treated_fills (bookless hs) k x = go (is_held k hs) (ltb (length hs) room.for_held) refl
    where
      go :
          (t u : Bool) → ltb (length hs) room.for_held ≡ u →
          Fills k (bookless hs) (cond {A = Fate × Place} t (repeated, bookless hs) (cond u (taken, bookless (with_held k x hs)) (dropped, bookless hs)))
      go true u q d = not_dropped repeated (room.for_held ≤ length hs) not_repeated d
      go false true q d =
          let a : room.for_held ≤ length hs = not_dropped taken (room.for_held ≤ length hs) not_taken d in
          let b : length hs < room.for_held = ltb-true (length hs) room.for_held q in
          absurd (omega arith)
      go false false q d = ltb-false (length hs) room.for_held q
  treated_fills (wanting b hs) k x =
      treated_ways (Fills k (wanting b hs)) b hs k x
      (λ a d. let f = not_dropped repeated (Full k (wanting b hs)) not_repeated d in absurd (omega arith))
      (λ a d. let f = not_dropped taken (Full k (wanting b hs)) not_taken d in absurd (omega arith))
      (λ a d. let f = not_dropped repeated (Full k (wanting b hs)) not_repeated d in (omega arith, f.1))
      (λ a u d. let f = not_dropped taken (Full k (wanting b hs)) not_taken d in absurd (omega arith))
      (λ a u d. (omega arith, u))

  one_dropped : (f : Fate) (c : Counts) → 1 ≤ (count_one f c).dropped → (f ≡ dropped) ⊎ (1 ≤ c.dropped)
  one_dropped dropped c l = inl refl
  one_dropped fate c l = inr l

  drops_fill :
      (ms : List (List ℕ)) (p : Place) (k : ℕ) → (1 ≤ (counts_of room p k ms).dropped) ⊎ Full k p → (j : ℕ) × Full j (place_after room p k ms)
  unfolding place_after counts_of
  drops_fill [] p k (inl l) = absurd (omega arith)
  drops_fill [] p k (inr f) = (k, f)
  drops_fill (m ∷ ms) p k d = drops_fill ms (treated room p k m).1 (suc k) (go d)
    where
      go :
          (1 ≤ (count_one (treated room p k m).0 (counts_of room (treated room p k m).1 (suc k) ms)).dropped) ⊎ Full k p →
          (1 ≤ (counts_of room (treated room p k m).1 (suc k) ms).dropped) ⊎ Full (suc k) (treated room p k m).1
      go (inr f) = inr (treated_fills p k m (inr f))
      go (inl l) =
          ⊎_elim (λ e. inr (treated_fills p k m (inl e))) (λ i. inl i)
          (one_dropped (treated room p k m).0 (counts_of room (treated room p k m).1 (suc k) ms) l)

  settled_full : (j : ℕ) (p : Place) (s : Option Session) (k : ℕ) → Full j p → room.for_held ≤ length (held_of (settled s k p))
  unfolding settled
  settled_full j (bookless hs) s k f = f
  settled_full j (wanting b hs) s k f = f.1
  settled_full j (stopped n c) s k f = absurd f

  -- where an outcome says that messages were dropped, no slot is free
  abbrev DropsFull : Outcome → Type 0
  DropsFull o = (next : State) (c : Counts) → o ≡ accepted next (counted c) → 1 ≤ c.dropped → room.for_held ≤ length (held_of next)

  no_drop : (t : Bool) (after : State) → DropsFull (cond t (accepted after (counted no_counts)) (refused refusal.OtherSession))
  no_drop true after next c e l = let z : no_counts.dropped ≡ c.dropped = cc in absurd (omega arith)
  no_drop false after next c e l = absurd cc

  packet_drops : (s : Started) (r : Result Sent Refusal) → DropsFull (on_packet room s r)
  packet_drops s (Err why) next c e l = absurd cc
  packet_drops s (Ok (heartbeat n session)) next c e l = no_drop (agrees s.session session) _ next c e l
  packet_drops s (Ok (messages number ms)) next c e l =
      let p : Place = place_of s.book s.held in
      let same : counts_of room p number ms ≡ c = cc in
      let there : settled s.session (max s.highest (last_of number ms)) (place_after room p number ms) ≡ next = cc in
      let full = drops_fill ms p number (inl (subst (λ (x : Counts). 1 ≤ x.dropped) (sym same) l)) in
      subst (λ x. room.for_held ≤ length (held_of x)) there
      (settled_full full.0 (place_after room p number ms) s.session (max s.highest (last_of number ms)) full.1)

pub wanted_is_taken : WantedIsTaken
unfolding outcome while_started
wanted_is_taken room s b bytes e c = wanted_taken room s b (packet_of bytes) e c

pub drops_only_when_full : DropsOnlyWhenFull
unfolding outcome while_started while_dark while_red
drops_only_when_full room dark next bytes c e l = absurd cc
drops_only_when_full room (red k cause) next bytes c e l = absurd cc
drops_only_when_full room (started s) next bytes c e l = packet_drops room s (packet_of bytes) next c e l
