-- Where a row stands in a list of rows, and what `found`, `placed` and `without` make of that place.
use Rattle.std.proofs.Common.{◌≡◌, ℕ, zero, suc, ◌<◌, ◌≤◌, Bool, true, false, cond, ◌⊎◌, List, [], ◌∷◌, length, get_or, set, is_some, Some, None, Option, Ordering, Less, Equal, Greater, sym, refl, ap, ◌∙◌, inl, inr, arith}
use Rattle.std.specs.Ordering.{is_lt}
use Rattle.std.specs.List.{insert, remove}
use Rattle.std.proofs.lemmas.List.{get_or_default}
use Rattle.std.proofs.lemmas.Bool.{and_parts, cases_lt}
use Rattle.table.specs.Rows.{pick, found, placed, without, below, above, ordered}

pub is_less : (o : Ordering) → is_lt o ≡ true → o ≡ Less
is_less Less h = refl
is_less Equal h = absurd cc
is_less Greater h = absurd cc

pub is_none : {X : Type 0} (r : Option X) → is_some r ≡ false → r ≡ None
is_none None h = refl
is_none (Some x) h = absurd cc

module _ {X K : Type 0} (key : X → K) (order : K → K → Ordering) where
  pub above_at : (q : K) (xs : List X) → above key order q xs ≡ true → (i : ℕ) (x : X) → i < length xs → x ≡ get_or xs i x → order q (key x) ≡ Less
  above_at q [] h i x l e = absurd (omega arith)
  above_at q (y ∷ ys) h zero x l e = rw e (is_less (order q (key y)) (and_parts (is_lt (order q (key y))) (above key order q ys) h).0)
  above_at q (y ∷ ys) h (suc i) x l e = above_at q ys (and_parts (is_lt (order q (key y))) (above key order q ys) h).1 i x (omega arith) e

  pub below_length : (q : K) (xs : List X) → below key order q xs ≤ length xs
  unfolding below
  below_length q [] = omega arith
  below_length q (x ∷ xs) = go (below_length q xs) (is_lt (order (key x) q))
    where
      go : below key order q xs ≤ length xs → (b : Bool) → cond b (suc (below key order q xs)) 0 ≤ length (x ∷ xs)
      go ih true = omega arith
      go ih false = omega arith

  -- the place of q: each row before it is less, and the one there is not
  pub below_place : (q : K) (xs : List X) (i : ℕ) → i ≤ length xs → ((j : ℕ) (d : X) → j < i → is_lt (order (key (get_or xs j d)) q) ≡ true) → ((d : X) → i < length xs → is_lt (order (key (get_or xs i d)) q) ≡ false) → i ≡ below key order q xs
  unfolding below
  below_place q [] i l f n = omega arith
  below_place q (x ∷ xs) zero l f n = rw (n x (omega arith)) refl
  below_place q (x ∷ xs) (suc i) l f n = rw (f 0 x (omega arith)) (ap suc (below_place q xs i (omega arith) (λ j d m. f (suc j) d (omega arith)) (λ d m. n d (omega arith))))

  -- in order, each row is less than those behind it
  pub rising : (xs : List X) → ordered key order xs ≡ true → (i j : ℕ) (d : X) → i < j → j < length xs → order (key (get_or xs i d)) (key (get_or xs j d)) ≡ Less
  rising [] o i j d h l = absurd (omega arith)
  rising (x ∷ xs) o i zero d h l = absurd (omega arith)
  rising (x ∷ xs) o zero (suc j) d h l = above_at (key x) xs (and_parts (above key order (key x) xs) (ordered key order xs) o).0 j (get_or xs j d) (omega arith) (get_or_default xs j d (get_or xs j d) (omega arith))
  rising (x ∷ xs) o (suc i) (suc j) d h l = rising xs (and_parts (above key order (key x) xs) (ordered key order xs) o).1 i j d (omega arith) (omega arith)

  -- what is found, by the row that stands at the place of q
  pub found_at : (q : K) (xs : List X) (x : X) → below key order q xs < length xs → x ≡ get_or xs (below key order q xs) x → found key order q xs ≡ pick (order (key x) q) None (Some x) None
  unfolding found below
  found_at q [] x l e = absurd (omega arith)
  found_at q (y ∷ ys) x l e = go (found_at q ys x) (order (key y) q) refl
    where
      go : (below key order q ys < length ys → x ≡ get_or ys (below key order q ys) x → found key order q ys ≡ pick (order (key x) q) None (Some x) None) → (o : Ordering) → order (key y) q ≡ o → found key order q (y ∷ ys) ≡ pick (order (key x) q) None (Some x) None
      go ih Less p =
          let s : suc (below key order q ys) < suc (length ys) = rw p at l in
          let f : x ≡ get_or ys (below key order q ys) x = rw p at e in
          rw p (ih (omega arith) f)
      go ih Equal p = let f : x ≡ y = rw p at e in rw (f, p)
      go ih Greater p = let f : x ≡ y = rw p at e in rw (f, p)

  pub found_past : (q : K) (xs : List X) → length xs ≤ below key order q xs → found key order q xs ≡ None
  unfolding found below
  found_past q [] l = refl
  found_past q (x ∷ xs) l = go (found_past q xs) (order (key x) q) refl
    where
      go : (length xs ≤ below key order q xs → found key order q xs ≡ None) → (o : Ordering) → order (key x) q ≡ o → found key order q (x ∷ xs) ≡ None
      go ih Less p = let s : suc (length xs) ≤ suc (below key order q xs) = rw p at l in rw p (ih (omega arith))
      go ih Equal p = let s : suc (length xs) ≤ 0 = rw p at l in absurd (omega arith)
      go ih Greater p = rw p

  -- what is found stands at its place
  pub found_within : (q : K) (xs : List X) → is_some (found key order q xs) ≡ true → below key order q xs < length xs
  found_within q xs h = go (cases_lt (below key order q xs) (length xs))
    where
      go : (below key order q xs < length xs) ⊎ (length xs ≤ below key order q xs) → below key order q xs < length xs
      go (inl l) = l
      go (inr l) = let n : false ≡ true = sym (ap is_some (found_past q xs l)) ∙ h in absurd cc

  pub found_here : (q : K) (xs : List X) (d : X) → is_some (found key order q xs) ≡ true → found key order q xs ≡ Some (get_or xs (below key order q xs) d)
  found_here q xs d h = go (order (key x) q) refl
    where
      l : below key order q xs < length xs
      l = found_within q xs h

      x : X
      x = get_or xs (below key order q xs) d

      f : found key order q xs ≡ pick (order (key x) q) None (Some x) None
      f = found_at q xs x l (get_or_default xs (below key order q xs) d x l)

      go : (o : Ordering) → order (key x) q ≡ o → found key order q xs ≡ Some x
      go Less p = let n : None ≡ found key order q xs = sym (rw p at f) in let m : false ≡ true = ap is_some n ∙ h in absurd cc
      go Equal p = rw p at f
      go Greater p = let n : None ≡ found key order q xs = sym (rw p at f) in let m : false ≡ true = ap is_some n ∙ h in absurd cc

  pub without_here : (q : K) (xs : List X) → is_some (found key order q xs) ≡ true → without key order q xs ≡ remove xs (below key order q xs)
  unfolding found without below
  without_here q [] h = absurd cc
  without_here q (x ∷ xs) h = go (without_here q xs) (order (key x) q) refl
    where
      go : (is_some (found key order q xs) ≡ true → without key order q xs ≡ remove xs (below key order q xs)) → (o : Ordering) → order (key x) q ≡ o → without key order q (x ∷ xs) ≡ remove (x ∷ xs) (below key order q (x ∷ xs))
      go ih Less p = rw p (ap (λ (t : List X). x ∷ t) (ih (rw p at h)))
      go ih Equal p = rw p
      go ih Greater p = let n : false ≡ true = rw p at h in absurd cc

  pub without_none : (q : K) (xs : List X) → found key order q xs ≡ None → without key order q xs ≡ xs
  unfolding found without
  without_none q [] h = refl
  without_none q (x ∷ xs) h = go (without_none q xs) (order (key x) q) refl
    where
      go : (found key order q xs ≡ None → without key order q xs ≡ xs) → (o : Ordering) → order (key x) q ≡ o → without key order q (x ∷ xs) ≡ x ∷ xs
      go ih Less p = rw p (ap (λ (t : List X). x ∷ t) (ih (rw p at h)))
      go ih Equal p = let n : Some x ≡ None = rw p at h in absurd cc
      go ih Greater p = rw p

  pub placed_here : (e : X) (xs : List X) → is_some (found key order (key e) xs) ≡ true → placed key order e xs ≡ set xs (below key order (key e) xs) e
  unfolding found placed below
  placed_here e [] h = absurd cc
  placed_here e (x ∷ xs) h = go (placed_here e xs) (order (key x) (key e)) refl
    where
      go : (is_some (found key order (key e) xs) ≡ true → placed key order e xs ≡ set xs (below key order (key e) xs) e) → (o : Ordering) → order (key x) (key e) ≡ o → placed key order e (x ∷ xs) ≡ set (x ∷ xs) (below key order (key e) (x ∷ xs)) e
      go ih Less p = rw p (ap (λ (t : List X). x ∷ t) (ih (rw p at h)))
      go ih Equal p = rw p
      go ih Greater p = let n : false ≡ true = rw p at h in absurd cc

  pub placed_new : (e : X) (xs : List X) → found key order (key e) xs ≡ None → placed key order e xs ≡ insert xs (below key order (key e) xs) e
  unfolding found placed below
  placed_new e [] h = refl
  placed_new e (x ∷ xs) h = go (placed_new e xs) (order (key x) (key e)) refl
    where
      go : (found key order (key e) xs ≡ None → placed key order e xs ≡ insert xs (below key order (key e) xs) e) → (o : Ordering) → order (key x) (key e) ≡ o → placed key order e (x ∷ xs) ≡ insert (x ∷ xs) (below key order (key e) (x ∷ xs)) e
      go ih Less p = rw p (ap (λ (t : List X). x ∷ t) (ih (rw p at h)))
      go ih Equal p = let n : Some x ≡ None = rw p at h in absurd cc
      go ih Greater p = rw p
