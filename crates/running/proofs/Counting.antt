-- The messages of a packet one after another: where they lead, and what is counted on the way.
use Rattle.std.proofs.Common.{◌≡◌, ℕ, suc, ◌+◌, ◌<◌, ◌≤◌, List, [], ◌∷◌, sym, refl, ap, ◌∙◌, add-zero, zero-add, add-one, arith}
use Rattle.following.specs.States.{Room}
use Rattle.following.specs.Follower.{Place, Fate, taken, repeated, dropped, unread, count_one, no_counts, treated, place_after, counts_of}
use Rattle.following.specs.declared.answers.Counts.{Counts}
use Rattle.running.specs.Runners.{Countable}

abbrev pub added : Counts → Counts → Counts
added c d = record { taken = c.taken + d.taken; repeated = c.repeated + d.repeated; dropped = c.dropped + d.dropped; unread = c.unread + d.unread }

-- one more on either side
pub added_one : (f : Fate) (c d : Counts) → added c (count_one f d) ≡ added (count_one f c) d
added_one taken c d = ap (λ n. record { taken = n; repeated = c.repeated + d.repeated; dropped = c.dropped + d.dropped; unread = c.unread + d.unread }) (omega arith)
added_one repeated c d = ap (λ n. record { taken = c.taken + d.taken; repeated = n; dropped = c.dropped + d.dropped; unread = c.unread + d.unread }) (omega arith)
added_one dropped c d = ap (λ n. record { taken = c.taken + d.taken; repeated = c.repeated + d.repeated; dropped = n; unread = c.unread + d.unread }) (omega arith)
added_one unread c d = ap (λ n. record { taken = c.taken + d.taken; repeated = c.repeated + d.repeated; dropped = c.dropped + d.dropped; unread = n }) (omega arith)

pub added_first :
    (c d : Counts) → c.taken ≡ 0 → c.repeated ≡ 0 → c.dropped ≡ 0 → c.unread ≡ 0 → d ≡ added c d
added_first c d t r o u = simp (t, r, o, u, zero-add) refl

pub added_last : (c : Counts) → added c no_counts ≡ c
added_last c = simp add-zero refl

-- with n messages left, no count passes its limit
abbrev pub Bounded : Counts → ℕ → Type 0
Bounded c n = (c.taken + n ≤ 65535) × (c.repeated + n ≤ 65535) × (c.dropped + n ≤ 65535) × (c.unread + n ≤ 65535)

pub bounded_one : (f : Fate) (c : Counts) (n m : ℕ) → m < n → Bounded c n → Bounded (count_one f c) m
bounded_one taken c n m l b = (omega arith, omega arith, omega arith, omega arith)
bounded_one fate c n m l b = (omega arith, omega arith, omega arith, omega arith)

pub countable : (c : Counts) (n m : ℕ) → m < n → Bounded c n → Countable c
countable c n m l b = (omega arith, omega arith, omega arith, omega arith)

-- the first message, and those behind it
module _ (room : Room) (p q : Place) (f : Fate) (n next : ℕ) (m : List ℕ) (ms rest : List (List ℕ))
    (e : ms ≡ m ∷ rest) (s : next ≡ n + 1) (t : (f, q) ≡ treated room p n m) where
  pub place_next : place_after room p n ms ≡ place_after room q next rest
  unfolding place_after
  place_next =
      ap (place_after room p n) e
      ∙ ap (λ (o : Fate × Place). place_after room o.1 (suc n) rest) (sym t)
      ∙ ap (λ k. place_after room q k rest) (sym (s ∙ add-one n))

  pub counts_next : counts_of room p n ms ≡ count_one f (counts_of room q next rest)
  unfolding counts_of
  counts_next =
      ap (counts_of room p n) e
      ∙ ap (λ (o : Fate × Place). count_one o.0 (counts_of room o.1 (suc n) rest)) (sym t)
      ∙ ap (λ k. count_one f (counts_of room q k rest)) (sym (s ∙ add-one n))

module _ (room : Room) (p : Place) (n : ℕ) (ms : List (List ℕ)) (e : ms ≡ []) where
  pub place_end : place_after room p n ms ≡ p
  unfolding place_after
  place_end = ap (place_after room p n) e

  pub counts_end : counts_of room p n ms ≡ no_counts
  unfolding counts_of
  counts_end = ap (counts_of room p n) e
