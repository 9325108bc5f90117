-- A place that fits a day: what each message of the day does keeps it so.
use Rattle.std.proofs.Common.{◌≡◌, ℕ, zero, suc, pred, ◌+◌, ◌≤◌, Bool, true, false, cond, eqb, ltb, leb, List, [], ◌∷◌, length, Some, None, Ok, Err, Option, Result, refl, ap, ◌∙◌, arith, eqb-true}
use Rattle.codes.specs.declared.cause.Cause.{Cause}
use Rattle.source.specs.Meanings.{numbered_from}
use Rattle.book.specs.Plain.{Plain, ran}
use Rattle.following.specs.States.{Room, Held, Wanting, is_held, with_held}
use Rattle.following.specs.Follower.{
  Place,
  bookless,
  wanting,
  stopped,
  Fate,
  taken,
  repeated,
  dropped,
  going_on,
  run_held,
  run_wanted,
  treated,
  place_after,
  ends,
  fetching,
  mended,
}
use Rattle.following.specs.Days.{Day, message_of, reached, stops, one_more, come_to, fed, whole_run, Ours}
use Rattle.following.specs.declared.answers.Ending.TheVariants as ending
use Rattle.following.proofs.Held.{Mine, with_mine}

-- numbers from s on
pub numbered_least : (xs : List (List ℕ)) (s k : ℕ) (x : List ℕ) → numbered_from s xs k ≡ Some x → s ≤ k
unfolding numbered_from
numbered_least [] s k x e = absurd cc
numbered_least (y ∷ ys) s k x e = go (eqb k s) refl (numbered_least ys (s + 1) k x) e
  where
    go : (t : Bool) → eqb k s ≡ t → (numbered_from (s + 1) ys k ≡ Some x → s + 1 ≤ k) → cond t (Some y) (numbered_from (s + 1) ys k) ≡ Some x → s ≤ k
    go true q ih e' = let a : k ≡ s = eqb-true k s q in omega arith
    go false q ih e' = omega (arith, ih e')

pub numbered_most : (xs : List (List ℕ)) (s k : ℕ) (x : List ℕ) → numbered_from s xs k ≡ Some x → suc k ≤ s + length xs
unfolding numbered_from
numbered_most [] s k x e = absurd cc
numbered_most (y ∷ ys) s k x e = go (eqb k s) refl (numbered_most ys (s + 1) k x) e
  where
    go : (t : Bool) → eqb k s ≡ t → (numbered_from (s + 1) ys k ≡ Some x → suc k ≤ s + 1 + length ys) → cond t (Some y) (numbered_from (s + 1) ys k) ≡ Some x → suc k ≤ s + length (y ∷ ys)
    go true q ih e' = let a : k ≡ s = eqb-true k s q in omega arith
    go false q ih e' = omega (arith, ih e')

module _ (room : Room) (d : Day) where
  -- one more message of the day
  pub runs_on :
      (w : ℕ) (b : Plain) (x : List ℕ) (r : Result Plain Cause) →
      1 ≤ w → whole_run room.for_book d (pred w) ≡ reached b → message_of d w ≡ Some x → ran room.for_book b x ≡ r →
      whole_run room.for_book d w ≡ come_to w r
  unfolding whole_run
  runs_on zero b x r l e f q = absurd (omega arith)
  runs_on (suc w) b x r l e f q =
      ap (λ u. one_more u (fed room.for_book (suc w) (message_of d (suc w)))) e
      ∙ ap (λ o. fed room.for_book (suc w) o b) f
      ∙ ap (come_to (suc w)) q

  -- the book is the whole run's, and what is held is the day's
  abbrev pub Fits : Place → Type 0
  Fits (bookless hs) = Mine d hs
  Fits (wanting b hs) = (1 ≤ b.wanted) × (whole_run room.for_book d (pred b.wanted) ≡ reached b.book) × Mine d hs
  Fits (stopped n c) = (whole_run room.for_book d n ≡ stops n c) × (n ≤ length d.messages)

  pub run_held_fits :
      (hs : List Held) (b : Plain) (w : ℕ) →
      1 ≤ w → whole_run room.for_book d (pred w) ≡ reached b → Mine d hs → Fits (run_held room b w hs)
  unfolding run_held
  run_held_fits [] b w p e mine = (p, e, tt)
  run_held_fits (h ∷ hs) b w p e mine =
      go (eqb h.number w) refl (ran room.for_book b h.bytes) refl (λ b'. run_held_fits hs b' (suc w))
    where
      go :
          (t : Bool) → eqb h.number w ≡ t →
          (r : Result Plain Cause) → ran room.for_book b h.bytes ≡ r →
          ((b' : Plain) → 1 ≤ suc w → whole_run room.for_book d (pred (suc w)) ≡ reached b' → Mine d hs → Fits (run_held room b' (suc w) hs)) →
          Fits (cond t (going_on w r (λ b'. run_held room b' (suc w) hs)) (wanting (record { book = b; wanted = w }) (h ∷ hs)))
      go false q r s ih = (p, e, mine)
      go true q (Ok b') s ih =
          let a : h.number ≡ w = eqb-true h.number w q in
          ih b' (omega arith) (runs_on w b h.bytes (Ok b') p e (rw a at mine.0) s) mine.1
      go true q (Err c) s ih =
          let a : h.number ≡ w = eqb-true h.number w q in
          let here : message_of d w ≡ Some h.bytes = rw a at mine.0 in
          (runs_on w b h.bytes (Err c) p e here s, omega (arith, numbered_most d.messages 1 w h.bytes here))

  pub run_wanted_fits :
      (hs : List Held) (b : Wanting) (x : List ℕ) →
      Fits (wanting b hs) → message_of d b.wanted ≡ Some x → Fits (run_wanted room b x hs)
  unfolding run_wanted
  run_wanted_fits hs b x f i = go (ran room.for_book b.book x) refl
    where
      go : (r : Result Plain Cause) → ran room.for_book b.book x ≡ r → Fits (going_on b.wanted r (λ b'. run_held room b' (suc b.wanted) hs))
      go (Ok b') s =
          run_held_fits hs b' (suc b.wanted) (omega arith) (runs_on b.wanted b.book x (Ok b') f.0 f.1 i s) f.2
      go (Err c) s =
          (runs_on b.wanted b.book x (Err c) f.0 f.1 i s, omega (arith, numbered_most d.messages 1 b.wanted x i))

  pub treated_fits : (p : Place) (i : ℕ) (x : List ℕ) → message_of d i ≡ Some x → Fits p → Fits (treated room p i x).1
  unfolding treated
  treated_fits (bookless hs) i x e f = go (is_held i hs) (ltb (length hs) room.for_held)
    where
      go :
          (t u : Bool) →
          Fits (cond {A = Fate × Place} t (repeated, bookless hs) (cond u (taken, bookless (with_held i x hs)) (dropped, bookless hs))).1
      go true u = f
      go false true = with_mine hs d i x e f
      go false false = f
  treated_fits (wanting b hs) i x e f =
      go (ltb i b.wanted) (eqb i b.wanted) refl (is_held i hs) (ltb (length hs) room.for_held)
    where
      go :
          (t : Bool) (u : Bool) → eqb i b.wanted ≡ u → (v r : Bool) →
          Fits
          (cond {A = Fate × Place} t (repeated, wanting b hs)
          (cond u (taken, run_wanted room b x hs)
          (cond v (repeated, wanting b hs) (cond r (taken, wanting b (with_held i x hs)) (dropped, wanting b hs))))).1
      go true u q v r = f
      go false true q v r = let a : i ≡ b.wanted = eqb-true i b.wanted q in run_wanted_fits hs b x f (rw a at e)
      go false false q true r = f
      go false false q false true = (f.0, f.1, with_mine hs d i x e f.2)
      go false false q false false = f
  treated_fits (stopped n c) i x e f = f

  pub place_after_fits : (xs : List (List ℕ)) (p : Place) (i : ℕ) → Ours d i xs → Fits p → Fits (place_after room p i xs)
  unfolding place_after Ours
  place_after_fits [] p i o f = f
  place_after_fits (x ∷ xs) p i o f =
      place_after_fits xs (treated room p i x).1 (suc i) o.1 (treated_fits p i x o.0 f)

  -- the source has the day's messages
  abbrev pub Honest : (ℕ → Option (List ℕ)) → Type 0
  Honest source = (k : ℕ) (m : List ℕ) → source k ≡ Some m → message_of d k ≡ Some m

  pub mended_fits : (source : ℕ → Option (List ℕ)) (k n : ℕ) (p : Place) → Honest source → Fits p → Fits (mended room source k n p).place
  unfolding mended
  mended_fits source k zero (bookless hs) t f = f
  mended_fits source k zero p t f = f
  mended_fits source k (suc n) (wanting b hs) t f =
      go (leb b.wanted k) (source b.wanted) refl (λ x. mended_fits source k n (run_wanted room b x hs) t)
    where
      go :
          (u : Bool) (o : Option (List ℕ)) → source b.wanted ≡ o →
          ((x : List ℕ) → Fits (run_wanted room b x hs) → Fits (mended room source k n (run_wanted room b x hs)).place) →
          Fits
          (cond u (fetching o (wanting b hs) (λ x. mended room source k n (run_wanted room b x hs))) (ends (wanting b hs) ending.Green)).place
      go false o r ih = f
      go true None r ih = f
      go true (Some x) r ih = ih x (run_wanted_fits hs b x f (t b.wanted x r))
  mended_fits source k (suc n) p t f = f
