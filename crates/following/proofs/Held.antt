-- Held messages in order, and those that are the day's.
use Rattle.std.proofs.Common.{◌≡◌, ℕ, zero, suc, pred, ◌+◌, ◌<◌, ◌≤◌, max, Bool, true, false, cond, eqb, List, [], ◌∷◌, length, is_some, Some, None, Ordering, Less, Equal, Greater, sym, refl, ap, ◌∙◌, subst, arith, eqb-true}
use borrow.Author.Tests.{eqb-false, both_ways}
use Rattle.std.specs.Cmp.{nat_cmp_is, ranks}
use Rattle.std.specs.Ordering.{MatchOrdering}
use Rattle.table.specs.Rows.{pick, found, placed, below}
use Rattle.book.specs.Keys.{by_number}
use Rattle.following.specs.States.{Held, number_of, is_held, with_held, held_from}
use Rattle.following.specs.Days.{Day, message_of}
use Rattle.following.specs.Law.{missing}

-- what a comparison of numbers tells
pub ranked : (a b : ℕ) (r : Ordering) → by_number a b ≡ r → MatchOrdering r (a < b) (a ≡ b) (b < a)
ranked a b r e = subst (λ o. MatchOrdering o (a < b) (a ≡ b) (b < a)) e (ranks a b)

lower : (a b : ℕ) → a < b → by_number a b ≡ Less
lower a b l = sym (nat_cmp_is a b Less l)

same : (a b : ℕ) → a ≡ b → by_number a b ≡ Equal
same a b e = sym (nat_cmp_is a b Equal e)

higher : (a b : ℕ) → b < a → by_number a b ≡ Greater
higher a b l = sym (nat_cmp_is a b Greater l)

-- the first of the held messages, and the number that is looked for
pub held_later : (k : ℕ) (h : Held) (hs : List Held) → h.number < k → is_held k (h ∷ hs) ≡ is_held k hs
unfolding found
held_later k h hs l = ap (λ o. is_some (pick o (found number_of by_number k hs) (Some h) None)) (lower h.number k l)

pub held_here : (k : ℕ) (h : Held) (hs : List Held) → h.number ≡ k → is_held k (h ∷ hs) ≡ true
unfolding found
held_here k h hs e = ap (λ o. is_some (pick o (found number_of by_number k hs) (Some h) None)) (same h.number k e)

pub not_held : (k : ℕ) (h : Held) (hs : List Held) → k < h.number → is_held k (h ∷ hs) ≡ false
unfolding found
not_held k h hs l = ap (λ o. is_some (pick o (found number_of by_number k hs) (Some h) None)) (higher h.number k l)

pub none_held : (k : ℕ) → is_held k [] ≡ false
unfolding found
none_held k = refl

-- ascending, above low, at most top
abbrev pub Ordered : ℕ → ℕ → List Held → Type 0
Ordered low top [] = Unit {0}
Ordered low top (h ∷ hs) = (low < h.number) × (h.number ≤ top) × Ordered h.number top hs

-- each is the day's message of its number
abbrev pub Mine : Day → List Held → Type 0
Mine d [] = Unit {0}
Mine d (h ∷ hs) = (message_of d h.number ≡ Some h.bytes) × Mine d hs

pub ordered_down : (hs : List Held) (low low' top : ℕ) → low' ≤ low → Ordered low top hs → Ordered low' top hs
ordered_down [] low low' top l o = tt
ordered_down (h ∷ hs) low low' top l o = (omega arith, o.1, o.2)

pub ordered_up : (hs : List Held) (low top top' : ℕ) → top ≤ top' → Ordered low top hs → Ordered low top' hs
ordered_up [] low top top' l o = tt
ordered_up (h ∷ hs) low top top' l o = (o.0, omega arith, ordered_up hs h.number top top' l o.2)

pub ordered_length : (hs : List Held) (low top : ℕ) → low ≤ top → Ordered low top hs → low + length hs ≤ top
ordered_length [] low top l o = omega arith
ordered_length (h ∷ hs) low top l o = omega (arith, ordered_length hs h.number top o.1 o.2)

pub ordered_none : (hs : List Held) (low top : ℕ) → top ≤ low → Ordered low top hs → length hs ≡ 0
ordered_none [] low top l o = refl
ordered_none (h ∷ hs) low top l o = absurd (omega arith)

pub ordered_not_held : (hs : List Held) (low top k : ℕ) → k ≤ low → Ordered low top hs → is_held k hs ≡ false
ordered_not_held [] low top k l o = none_held k
ordered_not_held (h ∷ hs) low top k l o = not_held k h hs (omega arith)

pub with_ordered :
    (hs : List Held) (low top k : ℕ) (x : List ℕ) →
    low < k → k ≤ top → is_held k hs ≡ false → Ordered low top hs → Ordered low top (with_held k x hs)
unfolding placed
with_ordered [] low top k x a b n o = (a, b, tt)
with_ordered (h ∷ hs) low top k x a b n o = go (by_number h.number k) refl (with_ordered hs h.number top k x)
  where
    go :
        (r : Ordering) → by_number h.number k ≡ r →
        (h.number < k → k ≤ top → is_held k hs ≡ false → Ordered h.number top hs → Ordered h.number top (with_held k x hs)) →
        Ordered low top (pick r (h ∷ with_held k x hs) (record { number = k; bytes = x } ∷ hs) (record { number = k; bytes = x } ∷ h ∷ hs))
    go Less e ih =
        let l : h.number < k = ranked h.number k Less e in
        (o.0, o.1, ih l b (sym (held_later k h hs l) ∙ n) o.2)
    go Equal e ih =
        let q : h.number ≡ k = ranked h.number k Equal e in
        absurd (both_ways (is_held k (h ∷ hs)) n (held_here k h hs q))
    go Greater e ih = let l : k < h.number = ranked h.number k Greater e in (a, b, (l, o.1, o.2))

pub with_mine :
    (hs : List Held) (d : Day) (k : ℕ) (x : List ℕ) →
    message_of d k ≡ Some x → Mine d hs → Mine d (with_held k x hs)
unfolding placed
with_mine [] d k x e o = (e, tt)
with_mine (h ∷ hs) d k x e o = go (by_number h.number k) (with_mine hs d k x e o.1)
  where
    go :
        (r : Ordering) → Mine d (with_held k x hs) →
        Mine d (pick r (h ∷ with_held k x hs) (record { number = k; bytes = x } ∷ hs) (record { number = k; bytes = x } ∷ h ∷ hs))
    go Less ih = (o.0, ih)
    go Equal ih = (e, o.1)
    go Greater ih = (e, o)

-- one held message: let go where it is below n
from_step : (n : ℕ) (h : Held) (hs : List Held) (r : Ordering) → by_number h.number n ≡ r → held_from n (h ∷ hs) ≡ pick r (held_from n hs) (h ∷ hs) (h ∷ hs)
unfolding below
from_step n h hs Less e = rw e refl
from_step n h hs Equal e = rw e refl
from_step n h hs Greater e = rw e refl

pub from_ordered : (hs : List Held) (n low top : ℕ) → Ordered low top hs → Ordered (max low (pred n)) top (held_from n hs)
unfolding below
from_ordered [] n low top o = tt
from_ordered (h ∷ hs) n low top o = go (by_number h.number n) refl (from_ordered hs n h.number top o.2)
  where
    go :
        (r : Ordering) → by_number h.number n ≡ r →
        Ordered (max h.number (pred n)) top (held_from n hs) →
        Ordered (max low (pred n)) top (held_from n (h ∷ hs))
    go Less e ih = rw (from_step n h hs Less e) (ordered_down (held_from n hs) (max h.number (pred n)) (max low (pred n)) top (omega arith) ih)
    go Equal e ih =
        let q : h.number ≡ n = ranked h.number n Equal e in
        rw (from_step n h hs Equal e) (omega arith, o.1, o.2)
    go Greater e ih =
        let l : n < h.number = ranked h.number n Greater e in
        rw (from_step n h hs Greater e) (omega arith, o.1, o.2)

pub from_mine : (hs : List Held) (d : Day) (n : ℕ) → Mine d hs → Mine d (held_from n hs)
unfolding below
from_mine [] d n o = tt
from_mine (h ∷ hs) d n o = go (by_number h.number n) refl (from_mine hs d n o.1)
  where
    go : (r : Ordering) → by_number h.number n ≡ r → Mine d (held_from n hs) → Mine d (held_from n (h ∷ hs))
    go Less e ih = rw (from_step n h hs Less e) ih
    go Equal e ih = rw (from_step n h hs Equal e) o
    go Greater e ih = rw (from_step n h hs Greater e) o

-- what is held below w does not count
pub missing_skip : (n w : ℕ) (h : Held) (hs : List Held) → h.number < w → missing (h ∷ hs) w n ≡ missing hs w n
unfolding missing
missing_skip zero w h hs l = refl
missing_skip (suc n) w h hs l =
    ap (λ t. cond t (missing (h ∷ hs) (suc w) n) (suc (missing (h ∷ hs) (suc w) n))) (held_later w h hs l)
    ∙ ap (λ m. cond (is_held w hs) m (suc m)) (missing_skip n (suc w) h hs (omega arith))

pub missing_held : (n w : ℕ) (hs : List Held) → is_held w hs ≡ true → missing hs w (suc n) ≡ missing hs (suc w) n
unfolding missing
missing_held n w hs e = ap (λ t. cond t (missing hs (suc w) n) (suc (missing hs (suc w) n))) e

pub missing_lost : (n w : ℕ) (hs : List Held) → is_held w hs ≡ false → missing hs w (suc n) ≡ suc (missing hs (suc w) n)
unfolding missing
missing_lost n w hs e = ap (λ t. cond t (missing hs (suc w) n) (suc (missing hs (suc w) n))) e

-- with those that are held, the missing numbers up to the top are all there are
pub missing_count :
    (n w low top : ℕ) (hs : List Held) →
    w ≤ suc low → w + n ≡ suc top → Ordered low top hs → missing hs w n + length hs ≡ n
unfolding missing
missing_count zero w low top hs l e o = omega (arith, ordered_none hs low top (omega arith) o)
missing_count (suc n) w low top [] l e o =
    omega (arith, missing_lost n w [] (none_held w), missing_count n (suc w) w top [] (omega arith) (omega arith) tt)
missing_count (suc n) w low top (h ∷ hs) l e o =
    go (eqb h.number w) refl (λ v low' gs. missing_count n v low' top gs)
  where
    go :
        (t : Bool) → eqb h.number w ≡ t →
        ((v low' : ℕ) (gs : List Held) → v ≤ suc low' → v + n ≡ suc top → Ordered low' top gs → missing gs v n + length gs ≡ n) →
        missing (h ∷ hs) w (suc n) + length (h ∷ hs) ≡ suc n
    go true q ih =
        let at : h.number ≡ w = eqb-true h.number w q in
        omega (arith, missing_held n w (h ∷ hs) (held_here w h hs at), missing_skip n (suc w) h hs (omega arith), ih (suc w) h.number hs (omega arith) (omega arith) o.2)
    go false q ih =
        let off : h.number ≡ w → ⊥ = eqb-false h.number w q in
        let o' : Ordered w top (h ∷ hs) = (omega arith, o.1, o.2) in
        omega (arith, missing_lost n w (h ∷ hs) (not_held w h hs (omega arith)), ih (suc w) w (h ∷ hs) (omega arith) (omega arith) o')
