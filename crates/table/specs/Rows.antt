-- Lists of rows in the order of their keys: what a table's calls say of its entries. Assumes nothing.
use Rattle.std.specs.Prelude.{◌≡◌, ℕ, suc, ◌+◌, ◌<◌, ◌≤◌, Bool, true, cond, ◌&&◌, List, [], ◌∷◌, length, drop, is_some, Some, None, Option, ◌≢◌, slice_index_or}
use Rattle.std.specs.declared.cmp.Ordering.TheVariants.{Less, Equal, Greater}
use Rattle.std.specs.declared.cmp.Ordering.{Ordering}
use Rattle.std.specs.Ordering.{is_lt, ordering_reverse}

-- the law of a comparison of keys, whose answer is exactly one of less, equal and greater
pub record Lawful {K : Type 0} (order : K → K → Ordering) : Type 0 where
  pub turn : (a b : K) → order b a ≡ ordering_reverse (order a b)
  pub less : (a b c : K) → order a b ≡ Less → order b c ≡ Less → order a c ≡ Less
  pub equal : (a b c : K) → order a b ≡ Equal → order b c ≡ Equal → order a c ≡ Equal

-- one of three, by what a comparison answered
abbrev pub pick : {X : Type 0} → Ordering → X → X → X → X
pick Less l e g = l
pick Equal l e g = e
pick Greater l e g = g

module _ {X K : Type 0} (key : X → K) (order : K → K → Ordering) where
  -- the row of key q
  unfoldable pub found : K → List X → Option X
  found q [] = None
  found q (x ∷ xs) = pick (order (key x) q) (found q xs) (Some x) None

  -- the rows with e at its place, where it stands in for a row of an equal key
  unfoldable pub placed : X → List X → List X
  placed e [] = e ∷ []
  placed e (x ∷ xs) = pick (order (key x) (key e)) (x ∷ placed e xs) (e ∷ xs) (e ∷ x ∷ xs)

  -- the rows but the one of key q
  unfoldable pub without : K → List X → List X
  without q [] = []
  without q (x ∷ xs) = pick (order (key x) q) (x ∷ without q xs) xs (x ∷ xs)

  -- how many rows come before key q
  unfoldable pub below : K → List X → ℕ
  below q [] = 0
  below q (x ∷ xs) = cond (is_lt (order (key x) q)) (suc (below q xs)) 0

  -- the rows from key q on
  abbrev pub onward : K → List X → List X
  onward q xs = drop (below q xs) xs

  -- every row comes after key q
  abbrev pub above : K → List X → Bool
  above q [] = true
  above q (x ∷ xs) = is_lt (order q (key x)) && above q xs

  -- each row comes before all that follow it
  abbrev pub ordered : List X → Bool
  ordered [] = true
  ordered (x ∷ xs) = above (key x) xs && ordered xs

-- x stands at some place of xs
abbrev pub Stored : {X : Type 0} → X → List X → Type 0
Stored x xs = (i : ℕ) × (i < length xs) × (x ≡ slice_index_or xs i x)

-- what holds of every list of rows, at any kind of row
pub record Laws {X K : Type 0} (key : X → K) (order : K → K → Ordering) : Type 0 where
  -- a row is found exactly where one of an equal key is stored
  pub found_stored : (q : K) (xs : List X) (x : X) → found key order q xs ≡ Some x → Stored x xs × (order (key x) q ≡ Equal)
  pub stored_found : (q : K) (xs : List X) (x : X) → ordered key order xs ≡ true → Stored x xs → order (key x) q ≡ Equal → found key order q xs ≡ Some x
  pub found_alike : (a b : K) (xs : List X) → order a b ≡ Equal → found key order a xs ≡ found key order b xs
  -- adding a row touches no other
  pub found_placed : (e : X) (xs : List X) (q : K) → order (key e) q ≡ Equal → found key order q (placed key order e xs) ≡ Some e
  pub found_placed_other : (e : X) (xs : List X) (q : K) → (order (key e) q ≢ Equal) → found key order q (placed key order e xs) ≡ found key order q xs
  -- removing a row touches no other
  pub found_without : (k : K) (xs : List X) (q : K) → ordered key order xs ≡ true → order k q ≡ Equal → found key order q (without key order k xs) ≡ None
  pub found_without_other : (k : K) (xs : List X) (q : K) → ordered key order xs ≡ true → (order k q ≢ Equal) → found key order q (without key order k xs) ≡ found key order q xs
  -- letting go of rows at the front touches no other
  pub found_dropped : (n : ℕ) (xs : List X) (q : K) → ordered key order xs ≡ true → below key order q xs < n → found key order q (drop n xs) ≡ None
  pub found_drop : (n : ℕ) (xs : List X) (q : K) → n ≤ below key order q xs → found key order q (drop n xs) ≡ found key order q xs
  pub found_below : (k : K) (xs : List X) (q : K) → order q k ≡ Less → found key order q (onward key order k xs) ≡ None
  pub found_onward : (k : K) (xs : List X) (q : K) → (order q k ≢ Less) → found key order q (onward key order k xs) ≡ found key order q xs
  -- the order is kept
  pub ordered_placed : (e : X) (xs : List X) → ordered key order xs ≡ true → ordered key order (placed key order e xs) ≡ true
  pub ordered_without : (k : K) (xs : List X) → ordered key order xs ≡ true → ordered key order (without key order k xs) ≡ true
  pub ordered_drop : (n : ℕ) (xs : List X) → ordered key order xs ≡ true → ordered key order (drop n xs) ≡ true
  -- rows in order are told by what is found among them
  pub same_found : (xs ys : List X) → ordered key order xs ≡ true → ordered key order ys ≡ true → ((q : K) → found key order q xs ≡ found key order q ys) → xs ≡ ys
  pub without_placed : (e : X) (xs : List X) → found key order (key e) xs ≡ None → without key order (key e) (placed key order e xs) ≡ xs
  -- lengths
  pub length_placed : (e : X) (xs : List X) → length (placed key order e xs) ≡ length xs + cond (is_some (found key order (key e) xs)) 0 1
  pub length_without : (k : K) (xs : List X) → length (without key order k xs) + cond (is_some (found key order k xs)) 1 0 ≡ length xs
  pub length_onward : (k : K) (xs : List X) → below key order k xs + length (onward key order k xs) ≡ length xs
