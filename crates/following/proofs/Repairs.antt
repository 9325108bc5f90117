-- A repair whose source has what is missing ends green or red, and ending green has fetched each missing message.
use Rattle.std.proofs.Common.{◌≡◌, ℕ, zero, suc, pred, ◌+◌, ◌-◌, ◌<◌, ◌≤◌, Bool, true, false, cond, eqb, leb, ◌⊎◌, List, [], ◌∷◌, length, Ok, Err, Option, Result, refl, ap, ◌∙◌, inl, inr, arith, eqb-true, leb-false, leb-true}
use borrow.Author.Tests.{lt-leb, eqb-false}
use Rattle.codes.specs.declared.cause.Cause.{Cause}
use Rattle.codes.specs.declared.lamp.Lamp.TheVariants as lamp
use Rattle.wire.specs.Names.{Session}
use Rattle.source.specs.Meanings.{Meaning}
use Rattle.book.specs.Plain.{Plain, ran}
use Rattle.following.specs.States.{Room, Held, Wanting, red, lamp_of}
use Rattle.following.specs.Follower.{
  Place,
  bookless,
  wanting,
  stopped,
  settled,
  going_on,
  run_held,
  run_wanted,
  Mended,
  ends,
  fetched_one,
  fetching,
  mended,
}
use Rattle.following.specs.Law.{missing, Covers}
use Rattle.following.specs.declared.answers.Ending.TheVariants as ending
use Rattle.following.proofs.Held.{Ordered, held_later, ordered_length, ordered_none, ordered_not_held, missing_count}

module _ (room : Room) (source : Meaning) (k : ℕ) where
  -- on the way of a repair: the wanted number with what is held comes to n
  abbrev Track : ℕ → Place → Type 0
  Track n (bookless hs) = ⊥
  Track n (wanting b hs) = (b.wanted ≤ suc k) × Ordered b.wanted k hs × Covers source b.wanted k hs × (b.wanted + length hs ≡ n)
  Track n (stopped i c) = Unit {0}

  covers_next : (h : Held) (hs : List Held) (w : ℕ) → h.number ≡ w → Covers source w k (h ∷ hs) → Covers source (suc w) k hs
  covers_next h hs w e c i l u n = c i (omega arith) u (held_later i h hs (omega arith) ∙ n)

  run_held_track :
      (hs : List Held) (b : Plain) (w n : ℕ) →
      w ≤ suc k → Ordered (pred w) k hs → Covers source w k hs → w + length hs ≡ n → Track n (run_held room b w hs)
  unfolding run_held
  run_held_track [] b w n l o c e = (l, tt, c, e)
  run_held_track (h ∷ hs) b w n l o c e =
      go (eqb h.number w) refl (ran room.for_book b h.bytes) (λ b'. run_held_track hs b' (suc w) n)
    where
      go :
          (t : Bool) → eqb h.number w ≡ t → (r : Result Plain Cause) →
          ((b' : Plain) →
          suc w ≤ suc k → Ordered (pred (suc w)) k hs → Covers source (suc w) k hs → suc w + length hs ≡ n →
          Track n (run_held room b' (suc w) hs)) →
          Track n (cond t (going_on w r (λ b'. run_held room b' (suc w) hs)) (wanting (record { book = b; wanted = w }) (h ∷ hs)))
      go false q r ih = let a : h.number ≡ w → ⊥ = eqb-false h.number w q in (l, (omega arith, o.1, o.2), c, e)
      go true q (Ok b') ih =
          let a : h.number ≡ w = eqb-true h.number w q in
          ih b' (omega arith) (rw a at o.2) (covers_next h hs w a c) (omega arith)
      go true q (Err x) ih = tt

  run_wanted_track :
      (hs : List Held) (b : Wanting) (n : ℕ) (x : List ℕ) →
      b.wanted ≤ k → Ordered b.wanted k hs → Covers source b.wanted k hs → b.wanted + length hs ≡ n →
      Track (suc n) (run_wanted room b x hs)
  unfolding run_wanted
  run_wanted_track hs b n x l o c e = go (ran room.for_book b.book x)
    where
      go : (r : Result Plain Cause) → Track (suc n) (going_on b.wanted r (λ b'. run_held room b' (suc b.wanted) hs))
      go (Ok b') = run_held_track hs b' (suc b.wanted) (suc n) (omega arith) o (λ i l' u a. c i (omega arith) u a) (omega arith)
      go (Err x') = tt

  abbrev IsDone : Place → Type 0
  IsDone (bookless hs) = ⊥
  IsDone (wanting b hs) = b.wanted ≡ suc k
  IsDone (stopped i c) = ⊥

  abbrev IsStopped : Place → Type 0
  IsStopped (bookless hs) = ⊥
  IsStopped (wanting b hs) = ⊥
  IsStopped (stopped i c) = Unit {0}

  abbrev Ends : ℕ → Mended → Type 0
  Ends n r =
      ((r.ending ≡ ending.Green) × (r.fetched + n ≡ suc k) × IsDone r.place) ⊎ ((r.ending ≡ ending.Red) × IsStopped r.place)

  one_fetched : (n : ℕ) (r : Mended) → Ends (suc n) r → Ends n (fetched_one r)
  one_fetched n r (inl e) = inl (e.0, omega (arith, e.1), e.2)
  one_fetched n r (inr e) = inr e

  -- green where nothing is wanted
  there : (b : Wanting) (n : ℕ) (hs : List Held) → Track n (wanting b hs) → k < b.wanted → Ends n (ends (wanting b hs) ending.Green)
  there b n hs t a = inl (refl, omega (arith, ordered_none hs b.wanted k (omega arith) t.1), omega arith)

  mended_ends : (budget n : ℕ) (p : Place) → Track n p → suc k ≤ n + budget → Ends n (mended room source.held k budget p)
  unfolding mended
  mended_ends zero n (bookless hs) t l = absurd t
  mended_ends zero n (wanting b hs) t l = go (leb b.wanted k) refl
    where
      go : (u : Bool) → leb b.wanted k ≡ u → Ends n (ends (wanting b hs) (cond u ending.Budget ending.Green))
      go true q = absurd (omega (arith, ordered_length hs b.wanted k (leb-true b.wanted k q) t.1))
      go false q = there b n hs t (leb-false b.wanted k q)
  mended_ends zero n (stopped i c) t l = inr (refl, tt)
  mended_ends (suc budget) n (bookless hs) t l = absurd t
  mended_ends (suc budget) n (stopped i c) t l = inr (refl, tt)
  mended_ends (suc budget) n (wanting b hs) t l =
      go (leb b.wanted k) refl (λ x. mended_ends budget (suc n) (run_wanted room b x hs))
    where
      go :
          (u : Bool) → leb b.wanted k ≡ u →
          ((x : List ℕ) → Track (suc n) (run_wanted room b x hs) → suc k ≤ suc n + budget → Ends (suc n) (mended room source.held k budget (run_wanted room b x hs))) →
          Ends n
          (cond u (fetching (source.held b.wanted) (wanting b hs) (λ x. mended room source.held k budget (run_wanted room b x hs)))
          (ends (wanting b hs) ending.Green))
      go false q ih = there b n hs t (leb-false b.wanted k q)
      go true q ih =
          let a : b.wanted ≤ k = leb-true b.wanted k q in
          let got = t.2 b.wanted (omega arith) a (ordered_not_held hs b.wanted k b.wanted (omega arith) t.1) in
          rw got.1
          (one_fetched n (mended room source.held k budget (run_wanted room b got.0 hs))
          (ih got.0 (run_wanted_track hs b n got.0 a t.1 t.2 t.3) (omega arith)))

  done_green : (p : Place) (s : Option Session) → IsDone p → lamp_of (settled s k p) ≡ lamp.Green (suc k)
  unfolding settled lamp_of
  done_green (bookless hs) s e = absurd e
  done_green (wanting b hs) s e = rw (lt-leb b.wanted k (omega arith)) (ap lamp.Green e)
  done_green (stopped i c) s e = absurd e

  stopped_red : (p : Place) (s : Option Session) → IsStopped p → (i : ℕ) × (c : Cause) × (settled s k p ≡ red i c)
  unfolding settled
  stopped_red (bookless hs) s e = absurd e
  stopped_red (wanting b hs) s e = absurd e
  stopped_red (stopped i c) s e = (i, c, refl)

  -- how a repair from a gap ends: green with each missing message fetched, or red
  abbrev pub Repaired : Option Session → Mended → ℕ → Type 0
  Repaired s r n =
      ((r.ending ≡ ending.Green) × (r.fetched ≡ n) × (lamp_of (settled s k r.place) ≡ lamp.Green (suc k)))
      ⊎ ((r.ending ≡ ending.Red) × ((i : ℕ) × (c : Cause) × (settled s k r.place ≡ red i c)))

  pub repairs :
      (b : Wanting) (hs : List Held) (budget : ℕ) (s : Option Session) →
      b.wanted ≤ k → Ordered b.wanted k hs → Covers source b.wanted k hs → missing hs b.wanted (suc k - b.wanted) ≤ budget →
      Repaired s (mended room source.held k budget (wanting b hs)) (missing hs b.wanted (suc k - b.wanted))
  repairs b hs budget s l o cov enough =
      go (mended room source.held k budget (wanting b hs))
      (mended_ends budget (b.wanted + length hs) (wanting b hs) (omega arith, o, cov, refl) (omega (arith, c)))
    where
      c : missing hs b.wanted (suc k - b.wanted) + length hs ≡ suc k - b.wanted
      c = missing_count (suc k - b.wanted) b.wanted b.wanted k hs (omega arith) (omega arith) o

      go : (r : Mended) → Ends (b.wanted + length hs) r → Repaired s r (missing hs b.wanted (suc k - b.wanted))
      go r (inl e) = inl (e.0, omega (arith, c, e.1), done_green r.place s e.2)
      go r (inr e) = inr (e.0, stopped_red r.place s e.1)
