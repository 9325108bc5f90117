-- A place in order: what each message does keeps it so.
use Rattle.std.proofs.Common.{◌≡◌, ℕ, zero, suc, pred, ◌+◌, ◌≤◌, Bool, true, false, cond, eqb, ltb, leb, List, [], ◌∷◌, length, Some, None, Ok, Err, Option, Result, refl, arith, ltb-false, eqb-true, leb-true}
use borrow.Author.Tests.{eqb-false}
use Rattle.codes.specs.declared.cause.Cause.{Cause}
use Rattle.book.specs.Plain.{Plain, ran}
use Rattle.following.specs.States.{Room, Held, Wanting, is_held, with_held}
use Rattle.following.specs.Follower.{
  Place,
  bookless,
  wanting,
  stopped,
  Fate,
  taken,
  repeated,
  dropped,
  going_on,
  run_held,
  run_wanted,
  treated,
  place_after,
  ends,
  fetching,
  mended,
}
use Rattle.following.specs.declared.answers.Ending.TheVariants as ending
use Rattle.following.proofs.Held.{Ordered, with_ordered, ordered_up}

-- where k is the highest number heard: the wanted number is at most one above, and what is held lies between
abbrev pub Shape : ℕ → Place → Type 0
Shape k (bookless hs) = Ordered 0 k hs
Shape k (wanting b hs) = (b.wanted ≤ suc k) × Ordered b.wanted k hs
Shape k (stopped n c) = Unit {0}

pub shape_up : (p : Place) (k k' : ℕ) → k ≤ k' → Shape k p → Shape k' p
shape_up (bookless hs) k k' l s = ordered_up hs 0 k k' l s
shape_up (wanting b hs) k k' l s = (omega arith, ordered_up hs b.wanted k k' l s.1)
shape_up (stopped n c) k k' l s = s

module _ (room : Room) where
  pub run_held_shape :
      (hs : List Held) (b : Plain) (w k : ℕ) → w ≤ suc k → Ordered (pred w) k hs → Shape k (run_held room b w hs)
  unfolding run_held
  run_held_shape [] b w k l o = (l, tt)
  run_held_shape (h ∷ hs) b w k l o =
      go (eqb h.number w) refl (ran room.for_book b h.bytes) (λ b'. run_held_shape hs b' (suc w) k)
    where
      go :
          (t : Bool) → eqb h.number w ≡ t → (r : Result Plain Cause) →
          ((b' : Plain) → suc w ≤ suc k → Ordered (pred (suc w)) k hs → Shape k (run_held room b' (suc w) hs)) →
          Shape k (cond t (going_on w r (λ b'. run_held room b' (suc w) hs)) (wanting (record { book = b; wanted = w }) (h ∷ hs)))
      go false q r ih = let n : h.number ≡ w → ⊥ = eqb-false h.number w q in (l, (omega arith, o.1, o.2))
      go true q (Ok b') ih = let a : h.number ≡ w = eqb-true h.number w q in ih b' (omega arith) (rw a at o.2)
      go true q (Err c) ih = tt

  pub run_wanted_shape :
      (hs : List Held) (b : Wanting) (k : ℕ) (x : List ℕ) → b.wanted ≤ k → Ordered b.wanted k hs → Shape k (run_wanted room b x hs)
  unfolding run_wanted
  run_wanted_shape hs b k x l o = go (ran room.for_book b.book x)
    where
      go : (r : Result Plain Cause) → Shape k (going_on b.wanted r (λ b'. run_held room b' (suc b.wanted) hs))
      go (Ok b') = run_held_shape hs b' (suc b.wanted) k (omega arith) o
      go (Err c) = tt

  pub treated_shape : (p : Place) (k i : ℕ) (x : List ℕ) → 1 ≤ i → i ≤ k → Shape k p → Shape k (treated room p i x).1
  unfolding treated
  treated_shape (bookless hs) k i x a l s = go (is_held i hs) refl (ltb (length hs) room.for_held)
    where
      go :
          (t : Bool) → is_held i hs ≡ t → (u : Bool) →
          Shape k (cond {A = Fate × Place} t (repeated, bookless hs) (cond u (taken, bookless (with_held i x hs)) (dropped, bookless hs))).1
      go true q u = s
      go false q true = with_ordered hs 0 k i x a l q s
      go false q false = s
  treated_shape (wanting b hs) k i x a l s =
      go (ltb i b.wanted) refl (eqb i b.wanted) refl (is_held i hs) refl (ltb (length hs) room.for_held)
    where
      go :
          (t : Bool) → ltb i b.wanted ≡ t → (u : Bool) → eqb i b.wanted ≡ u → (v : Bool) → is_held i hs ≡ v → (r : Bool) →
          Shape k
          (cond {A = Fate × Place} t (repeated, wanting b hs)
          (cond u (taken, run_wanted room b x hs)
          (cond v (repeated, wanting b hs) (cond r (taken, wanting b (with_held i x hs)) (dropped, wanting b hs))))).1
      go true q u q' v q'' r = s
      go false q true q' v q'' r =
          let e : i ≡ b.wanted = eqb-true i b.wanted q' in
          run_wanted_shape hs b k x (omega arith) s.1
      go false q false q' true q'' r = s
      go false q false q' false q'' true =
          let e : b.wanted ≤ i = ltb-false i b.wanted q in
          let n : i ≡ b.wanted → ⊥ = eqb-false i b.wanted q' in
          (s.0, with_ordered hs b.wanted k i x (omega arith) l q'' s.1)
      go false q false q' false q'' false = s
  treated_shape (stopped n c) k i x a l s = s

  pub place_after_shape :
      (xs : List (List ℕ)) (p : Place) (k i : ℕ) → 1 ≤ i → i + length xs ≤ suc k → Shape k p → Shape k (place_after room p i xs)
  unfolding place_after
  place_after_shape [] p k i a l s = s
  place_after_shape (x ∷ xs) p k i a l s =
      place_after_shape xs (treated room p i x).1 k (suc i) (omega arith) (omega arith) (treated_shape p k i x a (omega arith) s)

  pub mended_shape : (source : ℕ → Option (List ℕ)) (k n : ℕ) (p : Place) → Shape k p → Shape k (mended room source k n p).place
  unfolding mended
  mended_shape source k zero (bookless hs) s = s
  mended_shape source k zero p s = s
  mended_shape source k (suc n) (wanting b hs) s =
      go (leb b.wanted k) refl (source b.wanted) (λ x. mended_shape source k n (run_wanted room b x hs))
    where
      go :
          (u : Bool) → leb b.wanted k ≡ u → (o : Option (List ℕ)) →
          ((x : List ℕ) → Shape k (run_wanted room b x hs) → Shape k (mended room source k n (run_wanted room b x hs)).place) →
          Shape k
          (cond u (fetching o (wanting b hs) (λ x. mended room source k n (run_wanted room b x hs))) (ends (wanting b hs) ending.Green)).place
      go false q o ih = s
      go true q None ih = s
      go true q (Some x) ih = ih x (run_wanted_shape hs b k x (leb-true b.wanted k q) s.1)
  mended_shape source k (suc n) p s = s
