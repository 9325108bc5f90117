-- The laws of `found`, `placed`, `without` and `onward`, over any total order of keys.
use Rattle.std.proofs.Common.{◌≡◌, ℕ, zero, suc, ◌+◌, ◌<◌, ◌≤◌, Bool, true, false, cond, ltb, List, [], ◌∷◌, ◌++◌, length, take, drop, is_some, Some, None, Ok, Err, Option, Ordering, Less, Equal, Greater, sym, refl, ap, ◌∙◌, append-nil, subst, arith}
use Rattle.std.specs.Cmp.{IsTotalOrder, alike_right, tied_itself}
use Rattle.std.specs.Ordering.{is_lt, ordering_reverse}
use Rattle.std.proofs.lemmas.List.{drop_all, length-drop, take-take}
use Rattle.std.proofs.lemmas.Bool.{and_from, and_parts, ltb-true}
use Rattle.table.specs.Rows.{Lawful, Laws, Stored, pick, found, placed, without, below, onward, above, ordered}
use Rattle.table.specs.Tables.{taken}
use Rattle.table.specs.declared.NotAdded.TheVariants.{Full, Present}
use Rattle.table.proofs.Seats.{above_at, below_length, is_less, is_none, without_here, without_none}

module _ {X K : Type 0} (key : X → K) (order : K → K → Ordering) where
  -- a row comes after q, and so do the rest
  above_cons : (q : K) (x : X) (xs : List X) → order q (key x) ≡ Less → above key order q xs ≡ true → above key order q (x ∷ xs) ≡ true
  above_cons q x xs p h = and_from (is_lt (order q (key x))) (above key order q xs) (ap is_lt p) h

  above_parts : (q : K) (x : X) (xs : List X) → above key order q (x ∷ xs) ≡ true → (order q (key x) ≡ Less) × (above key order q xs ≡ true)
  above_parts q x xs h = let both = and_parts (is_lt (order q (key x))) (above key order q xs) h in (is_less (order q (key x)) both.0, both.1)

  ordered_cons : (x : X) (xs : List X) → above key order (key x) xs ≡ true → ordered key order xs ≡ true → ordered key order (x ∷ xs) ≡ true
  ordered_cons x xs h o = and_from (above key order (key x) xs) (ordered key order xs) h o

  ordered_parts : (x : X) (xs : List X) → ordered key order (x ∷ xs) ≡ true → (above key order (key x) xs ≡ true) × (ordered key order xs ≡ true)
  ordered_parts x xs o = and_parts (above key order (key x) xs) (ordered key order xs) o

  above_drop : (q : K) (n : ℕ) (xs : List X) → above key order q xs ≡ true → above key order q (drop n xs) ≡ true
  above_drop q zero xs h = h
  above_drop q (suc n) [] h = h
  above_drop q (suc n) (x ∷ xs) h = above_drop q n xs (above_parts q x xs h).1

  above_cut : (q : K) (i j : ℕ) (xs : List X) → i ≤ j → above key order q xs ≡ true → above key order q (take i xs ++ drop j xs) ≡ true
  above_cut q zero j xs l h = above_drop q j xs h
  above_cut q (suc i) zero xs l h = absurd (omega arith)
  above_cut q (suc i) (suc j) [] l h = h
  above_cut q (suc i) (suc j) (x ∷ xs) l h = let p = above_parts q x xs h in above_cons q x (take i xs ++ drop j xs) p.0 (above_cut q i j xs (omega arith) p.1)

  pub ordered_drop : (n : ℕ) (xs : List X) → ordered key order xs ≡ true → ordered key order (drop n xs) ≡ true
  ordered_drop zero xs o = o
  ordered_drop (suc n) [] o = o
  ordered_drop (suc n) (x ∷ xs) o = ordered_drop n xs (ordered_parts x xs o).1

  pub ordered_cut : (i j : ℕ) (xs : List X) → i ≤ j → ordered key order xs ≡ true → ordered key order (take i xs ++ drop j xs) ≡ true
  ordered_cut zero j xs l o = ordered_drop j xs o
  ordered_cut (suc i) zero xs l o = absurd (omega arith)
  ordered_cut (suc i) (suc j) [] l o = o
  ordered_cut (suc i) (suc j) (x ∷ xs) l o = let p = ordered_parts x xs o in ordered_cons x (take i xs ++ drop j xs) (above_cut (key x) i j xs (omega arith) p.0) (ordered_cut i j xs (omega arith) p.1)

  -- the first of what is in order
  pub ordered_front : (i n : ℕ) (xs : List X) → i ≤ n → ordered key order (take n xs) ≡ true → ordered key order (take i xs) ≡ true
  ordered_front i n xs l o =
      let ys : List X = take n xs in
      let none : drop (i + length ys) ys ≡ [] = drop_all (i + length ys) ys (omega arith) in
      let all : take i ys ++ drop (i + length ys) ys ≡ take i xs = ap (λ (t : List X). take i ys ++ t) none ∙ append-nil (take i ys) ∙ take-take i n xs l in
      ap (ordered key order) (sym all) ∙ ordered_cut i (i + length ys) ys (omega arith) o

  pub ordered_without : (k : K) (xs : List X) → ordered key order xs ≡ true → ordered key order (without key order k xs) ≡ true
  ordered_without k xs o = go (is_some (found key order k xs)) refl
    where
      go : (b : Bool) → is_some (found key order k xs) ≡ b → ordered key order (without key order k xs) ≡ true
      go true p = rw (without_here key order k xs p) (ordered_cut (below key order k xs) (suc (below key order k xs)) xs (omega arith) o)
      go false p = rw (without_none key order k xs (is_none (found key order k xs) p)) o

  pub length_placed : (e : X) (xs : List X) → length (placed key order e xs) ≡ length xs + cond (is_some (found key order (key e) xs)) 0 1
  unfolding found placed
  length_placed e [] = refl
  length_placed e (x ∷ xs) = go (length_placed e xs) (order (key x) (key e))
    where
      go : length (placed key order e xs) ≡ length xs + cond (is_some (found key order (key e) xs)) 0 1 → (r : Ordering) → length (pick r (x ∷ placed key order e xs) (e ∷ xs) (e ∷ x ∷ xs)) ≡ length (x ∷ xs) + cond (is_some (pick r (found key order (key e) xs) (Some x) None)) 0 1
      go ih Less = omega arith
      go ih Equal = omega arith
      go ih Greater = omega arith

  pub length_without : (k : K) (xs : List X) → length (without key order k xs) + cond (is_some (found key order k xs)) 1 0 ≡ length xs
  unfolding found without
  length_without k [] = refl
  length_without k (x ∷ xs) = go (length_without k xs) (order (key x) k)
    where
      go : length (without key order k xs) + cond (is_some (found key order k xs)) 1 0 ≡ length xs → (r : Ordering) → length (pick r (x ∷ without key order k xs) xs (x ∷ xs)) + cond (is_some (pick r (found key order k xs) (Some x) None)) 1 0 ≡ length (x ∷ xs)
      go ih Less = omega arith
      go ih Equal = omega arith
      go ih Greater = omega arith

  pub length_onward : (k : K) (xs : List X) → below key order k xs + length (onward key order k xs) ≡ length xs
  length_onward k xs = let b = below_length key order k xs in omega (arith, length-drop (below key order k xs) xs)

  -- what is taken is new, and there is a slot for it
  pub taken_ok : (n : ℕ) (e : X) (xs : List X) (u : Unit {0}) → Ok u ≡ taken key order n e xs → (found key order (key e) xs ≡ None) × (length xs < n)
  taken_ok n e xs u h = go (is_some (found key order (key e) xs)) (ltb (length xs) n) refl refl
    where
      go : (a b : Bool) → is_some (found key order (key e) xs) ≡ a → ltb (length xs) n ≡ b → (found key order (key e) xs ≡ None) × (length xs < n)
      go true b p q = let s : Ok u ≡ Err Present = rw p at h in absurd cc
      go false true p q = (is_none (found key order (key e) xs) p, ltb-true (length xs) n q)
      go false false p q = let s : Ok u ≡ Err Full = rw (p, q) at h in absurd cc

  pub found_stored : (q : K) (xs : List X) (x : X) → found key order q xs ≡ Some x → Stored x xs × (order (key x) q ≡ Equal)
  unfolding found
  found_stored q [] x h = absurd cc
  found_stored q (y ∷ ys) x h = go (found_stored q ys x) (order (key y) q) refl
    where
      go : (found key order q ys ≡ Some x → Stored x ys × (order (key x) q ≡ Equal)) → (r : Ordering) → order (key y) q ≡ r → Stored x (y ∷ ys) × (order (key x) q ≡ Equal)
      go ih Less p = let t = ih (rw p at h) in ((suc t.0.0, omega (arith, t.0.1), t.0.2), t.1)
      go ih Equal p = let e : Some y ≡ Some x = rw p at h in let f : y ≡ x = cc in ((zero, omega arith, sym f), subst (λ w. order (key w) q ≡ Equal) f p)
      go ih Greater p = let e : None ≡ Some x = rw p at h in absurd cc

  pub found_drop : (n : ℕ) (xs : List X) (q : K) → n ≤ below key order q xs → found key order q (drop n xs) ≡ found key order q xs
  unfolding found below
  found_drop zero xs q l = refl
  found_drop (suc n) [] q l = refl
  found_drop (suc n) (x ∷ xs) q l = go (found_drop n xs q) (order (key x) q) refl
    where
      go : (n ≤ below key order q xs → found key order q (drop n xs) ≡ found key order q xs) → (r : Ordering) → order (key x) q ≡ r → found key order q (drop n xs) ≡ found key order q (x ∷ xs)
      go ih Less p = let s : suc n ≤ suc (below key order q xs) = rw p at l in rw p (ih (omega arith))
      go ih Equal p = let s : suc n ≤ 0 = rw p at l in absurd (omega arith)
      go ih Greater p = let s : suc n ≤ 0 = rw p at l in absurd (omega arith)

  module _ (laws : IsTotalOrder order) where
    back : (a b : K) (o : Ordering) → order a b ≡ o → order b a ≡ ordering_reverse o
    back a b o p = laws.antisymm b a ∙ ap ordering_reverse p

    above_less : (a b : K) (xs : List X) → order a b ≡ Less → above key order b xs ≡ true → above key order a xs ≡ true
    above_less a b [] p h = refl
    above_less a b (x ∷ xs) p h = let t = above_parts b x xs h in above_cons a x xs (laws.trans a b (key x) p t.0) (above_less a b xs p t.1)

    above_equal : (a b : K) (xs : List X) → order a b ≡ Equal → above key order b xs ≡ true → above key order a xs ≡ true
    above_equal a b [] p h = refl
    above_equal a b (x ∷ xs) p h = let t = above_parts b x xs h in above_cons a x xs (laws.congr a b (key x) p ∙ t.0) (above_equal a b xs p t.1)

    above_placed : (q : K) (e : X) (xs : List X) → order q (key e) ≡ Less → above key order q xs ≡ true → above key order q (placed key order e xs) ≡ true
    unfolding placed
    above_placed q e [] p h = above_cons q e [] p h
    above_placed q e (x ∷ xs) p h = go (above_placed q e xs p t.1) (order (key x) (key e))
      where
        t : (order q (key x) ≡ Less) × (above key order q xs ≡ true)
        t = above_parts q x xs h

        go : above key order q (placed key order e xs) ≡ true → (r : Ordering) → above key order q (pick r (x ∷ placed key order e xs) (e ∷ xs) (e ∷ x ∷ xs)) ≡ true
        go ih Less = above_cons q x (placed key order e xs) t.0 ih
        go ih Equal = above_cons q e xs p t.1
        go ih Greater = above_cons q e (x ∷ xs) p h

    pub ordered_placed : (e : X) (xs : List X) → ordered key order xs ≡ true → ordered key order (placed key order e xs) ≡ true
    unfolding placed
    ordered_placed e [] o = ordered_cons e [] refl o
    ordered_placed e (x ∷ xs) o = go (ordered_placed e xs t.1) (order (key x) (key e)) refl
      where
        t : (above key order (key x) xs ≡ true) × (ordered key order xs ≡ true)
        t = ordered_parts x xs o

        go : ordered key order (placed key order e xs) ≡ true → (r : Ordering) → order (key x) (key e) ≡ r → ordered key order (pick r (x ∷ placed key order e xs) (e ∷ xs) (e ∷ x ∷ xs)) ≡ true
        go ih Less p = ordered_cons x (placed key order e xs) (above_placed (key x) e xs p t.0) ih
        go ih Equal p = ordered_cons e xs (above_equal (key e) (key x) xs (back (key x) (key e) Equal p) t.0) t.1
        go ih Greater p = let s : order (key e) (key x) ≡ Less = back (key x) (key e) Greater p in ordered_cons e (x ∷ xs) (above_cons (key e) x xs s (above_less (key e) (key x) xs s t.0)) o

    -- among rows after k none is found whose key is not after k
    above_none : (k q : K) (xs : List X) → above key order k xs ≡ true → (order k q ≡ Less → ⊥) → found key order q xs ≡ None
    unfolding found
    above_none k q [] h n = refl
    above_none k q (x ∷ xs) h n = go (order (key x) q) refl
      where
        s : order k (key x) ≡ Less
        s = (above_parts k x xs h).0

        go : (r : Ordering) → order (key x) q ≡ r → pick r (found key order q xs) (Some x) None ≡ None
        go Less p = absurd (n (laws.trans k (key x) q s p))
        go Equal p = absurd (n (sym (alike_right laws (key x) q k p) ∙ s))
        go Greater p = refl

    pub found_alike : (a b : K) (xs : List X) → order a b ≡ Equal → found key order a xs ≡ found key order b xs
    unfolding found
    found_alike a b [] h = refl
    found_alike a b (x ∷ xs) h = rw (alike_right laws a b (key x) h) (ap (λ (t : Option X). pick (order (key x) b) t (Some x) None) (found_alike a b xs h))

    pub stored_found : (q : K) (xs : List X) (x : X) → ordered key order xs ≡ true → Stored x xs → order (key x) q ≡ Equal → found key order q xs ≡ Some x
    unfolding found
    stored_found q [] x o (i, l, e) p = absurd (omega arith)
    stored_found q (y ∷ ys) x o (zero, l, e) p = let s : order (key y) q ≡ Equal = rw e at p in rw (s, e)
    stored_found q (y ∷ ys) x o (suc i, l, e) p =
        let t = ordered_parts y ys o in
        let s : order (key y) q ≡ Less = sym (alike_right laws (key x) q (key y) p) ∙ above_at key order (key y) ys t.0 i x (omega arith) e in
        rw s (stored_found q ys x t.1 (i, omega arith, e) p)

    pub found_placed : (e : X) (xs : List X) (q : K) → order (key e) q ≡ Equal → found key order q (placed key order e xs) ≡ Some e
    unfolding found placed
    found_placed e [] q h = rw h
    found_placed e (x ∷ xs) q h = go (found_placed e xs q h) (order (key x) (key e)) refl
      where
        go : found key order q (placed key order e xs) ≡ Some e → (r : Ordering) → order (key x) (key e) ≡ r → found key order q (pick r (x ∷ placed key order e xs) (e ∷ xs) (e ∷ x ∷ xs)) ≡ Some e
        go ih Less p = let l : order (key x) q ≡ Less = sym (alike_right laws (key e) q (key x) h) ∙ p in rw l ih
        go ih Equal p = rw h
        go ih Greater p = rw h

    pub found_placed_other : (e : X) (xs : List X) (q : K) → (order (key e) q ≡ Equal → ⊥) → found key order q (placed key order e xs) ≡ found key order q xs
    unfolding found placed
    found_placed_other e [] q n = go (order (key e) q) refl
      where
        go : (r : Ordering) → order (key e) q ≡ r → pick r None (Some e) None ≡ None
        go Less p = refl
        go Equal p = absurd (n p)
        go Greater p = refl
    found_placed_other e (x ∷ xs) q n = go (found_placed_other e xs q n) (order (key x) (key e)) refl
      where
        at : (r : Ordering) → order (key e) q ≡ r → pick r (found key order q xs) (Some e) None ≡ pick r (found key order q xs) (Some x) None
        at Less p = refl
        at Equal p = absurd (n p)
        at Greater p = refl

        over : order (key x) (key e) ≡ Greater → (r : Ordering) → order (key e) q ≡ r → pick r (found key order q (x ∷ xs)) (Some e) None ≡ found key order q (x ∷ xs)
        over p Less s = refl
        over p Equal s = absurd (n s)
        over p Greater s =
            let xq : order (key x) q ≡ Greater = back q (key x) Less (laws.trans q (key e) (key x) (back (key e) q Greater s) (back (key x) (key e) Greater p)) in
            rw xq

        go : found key order q (placed key order e xs) ≡ found key order q xs → (r : Ordering) → order (key x) (key e) ≡ r → found key order q (pick r (x ∷ placed key order e xs) (e ∷ xs) (e ∷ x ∷ xs)) ≡ found key order q (x ∷ xs)
        go ih Less p = ap (λ (t : Option X). pick (order (key x) q) t (Some x) None) ih
        go ih Equal p = rw (laws.congr (key x) (key e) q p) (at (order (key e) q) refl)
        go ih Greater p = over p (order (key e) q) refl

    found_without_same : (k : K) (xs : List X) → ordered key order xs ≡ true → found key order k (without key order k xs) ≡ None
    unfolding found without
    found_without_same k [] o = refl
    found_without_same k (x ∷ xs) o = go (found_without_same k xs t.1) (order (key x) k) refl
      where
        t : (above key order (key x) xs ≡ true) × (ordered key order xs ≡ true)
        t = ordered_parts x xs o

        go : found key order k (without key order k xs) ≡ None → (r : Ordering) → order (key x) k ≡ r → found key order k (pick r (x ∷ without key order k xs) xs (x ∷ xs)) ≡ None
        go ih Less p = rw p ih
        go ih Equal p = above_none (key x) k xs t.0 (λ s. let f : Less ≡ Equal = sym s ∙ p in cc)
        go ih Greater p = rw p

    pub found_without : (k : K) (xs : List X) (q : K) → ordered key order xs ≡ true → order k q ≡ Equal → found key order q (without key order k xs) ≡ None
    found_without k xs q o p = sym (found_alike k q (without key order k xs) p) ∙ found_without_same k xs o

    pub found_without_other : (k : K) (xs : List X) (q : K) → ordered key order xs ≡ true → (order k q ≡ Equal → ⊥) → found key order q (without key order k xs) ≡ found key order q xs
    unfolding found without
    found_without_other k [] q o n = refl
    found_without_other k (x ∷ xs) q o n = go (found_without_other k xs q t.1 n) (order (key x) k) refl
      where
        t : (above key order (key x) xs ≡ true) × (ordered key order xs ≡ true)
        t = ordered_parts x xs o

        at : (s : Ordering) → order (key x) q ≡ s → order k q ≡ s → found key order q xs ≡ pick s (found key order q xs) (Some x) None
        at Less p u = refl
        at Equal p u = absurd (n u)
        at Greater p u = above_none (key x) q xs t.0 (λ s. let f : Less ≡ Greater = sym s ∙ p in cc)

        go : found key order q (without key order k xs) ≡ found key order q xs → (s : Ordering) → order (key x) k ≡ s → found key order q (pick s (x ∷ without key order k xs) xs (x ∷ xs)) ≡ found key order q (x ∷ xs)
        go ih Less p = ap (λ (w : Option X). pick (order (key x) q) w (Some x) None) ih
        go ih Equal p = at (order (key x) q) refl (sym (laws.congr (key x) k q p))
        go ih Greater p = refl

    pub found_dropped : (n : ℕ) (xs : List X) (q : K) → ordered key order xs ≡ true → below key order q xs < n → found key order q (drop n xs) ≡ None
    unfolding found below
    found_dropped zero xs q o l = absurd (omega arith)
    found_dropped (suc n) [] q o l = refl
    found_dropped (suc n) (x ∷ xs) q o l = go (found_dropped n xs q t.1) (order (key x) q) refl
      where
        t : (above key order (key x) xs ≡ true) × (ordered key order xs ≡ true)
        t = ordered_parts x xs o

        go : (below key order q xs < n → found key order q (drop n xs) ≡ None) → (r : Ordering) → order (key x) q ≡ r → found key order q (drop n xs) ≡ None
        go ih Less p = let s : suc (below key order q xs) < suc n = rw p at l in ih (omega arith)
        go ih Equal p = above_none (key x) q (drop n xs) (above_drop (key x) n xs t.0) (λ s. let f : Less ≡ Equal = sym s ∙ p in cc)
        go ih Greater p = above_none (key x) q (drop n xs) (above_drop (key x) n xs t.0) (λ s. let f : Less ≡ Greater = sym s ∙ p in cc)

    pub found_below : (k : K) (xs : List X) (q : K) → order q k ≡ Less → found key order q (onward key order k xs) ≡ None
    unfolding found below
    found_below k [] q h = refl
    found_below k (x ∷ xs) q h = go (found_below k xs q h) (order (key x) k) refl
      where
        past : (r : Ordering) → order (key x) q ≡ r → (order (key x) k ≡ Less → ⊥) → pick r (found key order q xs) (Some x) None ≡ None
        past Less p n = absurd (n (laws.trans (key x) q k p h))
        past Equal p n = absurd (n (laws.congr (key x) q k p ∙ h))
        past Greater p n = refl

        go : found key order q (onward key order k xs) ≡ None → (r : Ordering) → order (key x) k ≡ r → found key order q (drop (cond (is_lt r) (suc (below key order k xs)) 0) (x ∷ xs)) ≡ None
        go ih Less p = ih
        go ih Equal p = past (order (key x) q) refl (λ s. let f : Less ≡ Equal = sym s ∙ p in cc)
        go ih Greater p = past (order (key x) q) refl (λ s. let f : Less ≡ Greater = sym s ∙ p in cc)

    pub found_onward : (k : K) (xs : List X) (q : K) → (order q k ≡ Less → ⊥) → found key order q (onward key order k xs) ≡ found key order q xs
    unfolding found below
    found_onward k [] q n = refl
    found_onward k (x ∷ xs) q n = go (found_onward k xs q n) (order (key x) k) refl
      where
        over : order (key x) k ≡ Less → (r : Ordering) → order (key x) q ≡ r → r ≡ Less
        over p Less s = refl
        over p Equal s = absurd (n (sym (laws.congr (key x) q k s) ∙ p))
        over p Greater s = absurd (n (laws.trans q (key x) k (back (key x) q Greater s) p))

        go : found key order q (onward key order k xs) ≡ found key order q xs → (r : Ordering) → order (key x) k ≡ r → found key order q (drop (cond (is_lt r) (suc (below key order k xs)) 0) (x ∷ xs)) ≡ found key order q (x ∷ xs)
        go ih Less p = let s : order (key x) q ≡ Less = over p (order (key x) q) refl in rw s ih
        go ih Equal p = refl
        go ih Greater p = refl

    pub without_placed : (e : X) (xs : List X) → found key order (key e) xs ≡ None → without key order (key e) (placed key order e xs) ≡ xs
    unfolding found placed without
    without_placed e [] h = rw (tied_itself laws (key e))
    without_placed e (x ∷ xs) h = go (without_placed e xs) (order (key x) (key e)) refl
      where
        go : (found key order (key e) xs ≡ None → without key order (key e) (placed key order e xs) ≡ xs) → (r : Ordering) → order (key x) (key e) ≡ r → without key order (key e) (pick r (x ∷ placed key order e xs) (e ∷ xs) (e ∷ x ∷ xs)) ≡ x ∷ xs
        go ih Less p = rw p (ap (λ (t : List X). x ∷ t) (ih (rw p at h)))
        go ih Equal p = let n : Some x ≡ None = rw p at h in absurd cc
        go ih Greater p = rw (tied_itself laws (key e))

    -- the first of ordered rows is found, and past it nothing but what is found in the rest
    found_first : (x : X) (xs : List X) → found key order (key x) (x ∷ xs) ≡ Some x
    unfolding found
    found_first x xs = rw (tied_itself laws (key x))

    first_same : (x y : X) (xs ys : List X) → ((q : K) → found key order q (x ∷ xs) ≡ found key order q (y ∷ ys)) → x ≡ y
    unfolding found
    first_same x y xs ys f = go (order (key y) (key x)) refl
      where
        at : Some x ≡ found key order (key x) (y ∷ ys)
        at = sym (found_first x xs) ∙ f (key x)

        go : (r : Ordering) → order (key y) (key x) ≡ r → x ≡ y
        go Less p =
            let t : order (key x) (key y) ≡ Greater = back (key y) (key x) Less p in
            let n : found key order (key y) (x ∷ xs) ≡ Some y = f (key y) ∙ found_first y ys in
            let m : None ≡ Some y = rw t at n in
            absurd cc
        go Equal p = let e : Some x ≡ Some y = rw p at at in cc
        go Greater p = let e : Some x ≡ None = rw p at at in absurd cc

    rest_same : (x : X) (xs ys : List X) → above key order (key x) xs ≡ true → above key order (key x) ys ≡ true → ((q : K) → found key order q (x ∷ xs) ≡ found key order q (x ∷ ys)) → (q : K) → found key order q xs ≡ found key order q ys
    unfolding found
    rest_same x xs ys h k f q = go (order (key x) q) refl
      where
        none : (order (key x) q ≡ Less → ⊥) → found key order q xs ≡ found key order q ys
        none n = above_none (key x) q xs h n ∙ sym (above_none (key x) q ys k n)

        go : (r : Ordering) → order (key x) q ≡ r → found key order q xs ≡ found key order q ys
        go Less p = rw p at (f q)
        go Equal p = none (λ s. let e : Less ≡ Equal = sym s ∙ p in cc)
        go Greater p = none (λ s. let e : Less ≡ Greater = sym s ∙ p in cc)

    pub same_found : (xs ys : List X) → ordered key order xs ≡ true → ordered key order ys ≡ true → ((q : K) → found key order q xs ≡ found key order q ys) → xs ≡ ys
    unfolding found
    same_found [] [] o u f = refl
    same_found [] (y ∷ ys) o u f = let e : None ≡ Some y = f (key y) ∙ found_first y ys in absurd cc
    same_found (x ∷ xs) [] o u f = let e : Some x ≡ None = sym (found_first x xs) ∙ f (key x) in absurd cc
    same_found (x ∷ xs) (y ∷ ys) o u f =
        let e : x ≡ y = first_same x y xs ys f in
        let t = ordered_parts x xs o in
        let w = ordered_parts y ys u in
        let g : (q : K) → found key order q (x ∷ xs) ≡ found key order q (x ∷ ys) = λ q. f q ∙ ap (λ v. found key order q (v ∷ ys)) (sym e) in
        let a : above key order (key x) ys ≡ true = ap (λ v. above key order (key v) ys) e ∙ w.0 in
        ap (λ (s : List X). x ∷ s) (same_found xs ys t.1 w.1 (rest_same x xs ys t.0 a g)) ∙ ap (λ v. v ∷ ys) e

    pub all_laws : Laws key order
    all_laws =
        record {
          found_stored = found_stored;
          stored_found = stored_found;
          found_alike = found_alike;
          found_placed = found_placed;
          found_placed_other = found_placed_other;
          found_without = found_without;
          found_without_other = found_without_other;
          found_dropped = found_dropped;
          found_drop = found_drop;
          found_below = found_below;
          found_onward = found_onward;
          ordered_placed = ordered_placed;
          ordered_without = ordered_without;
          ordered_drop = ordered_drop;
          same_found = same_found;
          without_placed = without_placed;
          length_placed = length_placed;
          length_without = length_without;
          length_onward = length_onward;
        }

-- an order of the standard library is lawful
pub total_lawful : {K : Type 0} {R : K → K → Ordering} (o : IsTotalOrder R) → Lawful R
total_lawful o = record { turn = λ a b. o.antisymm b a; less = o.trans; equal = λ a b c p q. o.congr a b c p ∙ q }

-- and a lawful order is one of the standard library
module _ {K : Type 0} {R : K → K → Ordering} (l : Lawful R) where
  turned : (x y : K) (o : Ordering) → R x y ≡ o → R y x ≡ ordering_reverse o
  turned x y o p = l.turn x y ∙ ap ordering_reverse p

  alike : (x y z : K) → R x y ≡ Equal → R x z ≡ R y z
  alike x y z e = go (R x z) (R y z) refl refl
    where
      go : (r s : Ordering) → R x z ≡ r → R y z ≡ s → r ≡ s
      go Less Less p q = refl
      go Less Equal p q = let t = l.equal x y z e q in absurd cc
      go Less Greater p q = let t = l.less x z y p (turned y z Greater q) in absurd cc
      go Equal Less p q = let t = l.equal y x z (turned x y Equal e) p in absurd cc
      go Equal Equal p q = refl
      go Equal Greater p q = let t = l.equal y x z (turned x y Equal e) p in absurd cc
      go Greater Less p q =
          let t = l.less y z x q (turned x z Greater p) in
          let u = turned x y Equal e in
          absurd cc
      go Greater Equal p q = let t = l.equal x y z e q in absurd cc
      go Greater Greater p q = refl

  pub lawful_total : IsTotalOrder R
  lawful_total = record { antisymm = λ x y. l.turn y x; trans = l.less; congr = alike }
