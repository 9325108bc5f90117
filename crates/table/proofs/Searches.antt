-- What the searches of the library tell of rows in order.
use Rattle.std.proofs.Common.{◌≡◌, ℕ, ◌+◌, ◌<◌, ◌≤◌, true, false, ◌⊎◌, List, [], ◌∷◌, length, get_or, set, is_some, Some, None, Ok, Err, Result, Ordering, Less, Greater, sym, ap, ◌∙◌, subst, inl, inr, add-one, arith}
use Rattle.std.specs.Cmp.{IsTotalOrder, alike_right}
use Rattle.std.specs.List.{insert}
use Rattle.std.specs.List.Sorted.{IsBinarySearchResult, IsPartitionPoint, IsPartitionedBy, IsSearchInRange, IsSortedByKey}
use Rattle.std.specs.Ordering.{is_lt, ordering_reverse}
use Rattle.std.proofs.lemmas.Bool.{cases_lt}
use Rattle.std.proofs.lemmas.List.{get_or_default}
use Rattle.std.proofs.lemmas.List.Sorted.{searchable_from_sorted}
use Rattle.table.specs.Rows.{pick, found, placed, below, ordered}
use Rattle.table.specs.Tables.{Seat}
use Rattle.table.proofs.Laws.{ordered_placed}
use Rattle.table.proofs.Seats.{below_place, found_at, found_here, found_past, is_less, placed_here, placed_new, rising, without_here, without_none}

element : {X : Type 0} (xs : List X) (i : ℕ) → i < length xs → X
element [] i l = absurd (omega arith)
element (x ∷ xs) i l = x

module _ {X K : Type 0} (key : X → K) (order : K → K → Ordering) (laws : IsTotalOrder order) (q : K) (xs : List X) (o : ordered key order xs ≡ true) where
  sorted : IsSortedByKey key order xs
  sorted k d z l = ap is_lt (laws.antisymm _ _ ∙ ap ordering_reverse (rising key order xs o k (k + 1) d (omega arith) l))

  seat_here : (i : ℕ) → i ≡ below key order q xs → is_some (found key order q xs) ≡ true → i < length xs → Seat key order q xs (Ok i)
  seat_here i b f l = (l, f, (λ d. rw b (found_here key order q xs d f)), rw (add-one, b) (without_here key order q xs f), at, (λ y s. rw (sym (at y s)) (ordered_placed key order laws y xs o)))
    where
      at : (y : X) → q ≡ key y → placed key order y xs ≡ set xs i y
      at y s = rw b (rw s (placed_here key order y xs (ap (λ k. is_some (found key order k xs)) (sym s) ∙ f)))

  seat_none : (i : ℕ) → i ≡ below key order q xs → found key order q xs ≡ None → i ≤ length xs → Seat key order q xs (Err i)
  seat_none i b f l = (l, f, without_none key order q xs f, at, (λ y s. rw (sym (at y s)) (ordered_placed key order laws y xs o)))
    where
      at : (y : X) → q ≡ key y → placed key order y xs ≡ insert xs i y
      at y s = rw b (rw s (placed_new key order y xs (ap (λ k. found key order k xs) (sym s) ∙ f)))

  there : (i : ℕ) → i ≡ below key order q xs → (d : X) → i < length xs → found key order q xs ≡ pick (order (key (get_or xs i d)) q) None (Some (get_or xs i d)) None
  there i b d l = found_at key order q xs (get_or xs i d) (omega arith) (subst (λ n. get_or xs i d ≡ get_or xs n (get_or xs i d)) b (get_or_default xs i d (get_or xs i d) l))

  pub seat_searched : (r : Result ℕ ℕ) → IsSearchInRange r (length xs) → IsBinarySearchResult (λ y. order (key y) q) xs r → Seat key order q xs r
  seat_searched (Ok i) l at = seat_here i b (ap is_some f) l
    where
      inside : i < length xs
      inside = l

      b : i ≡ below key order q xs
      b = below_place key order q xs i (omega (arith, inside)) (λ j d n. ap is_lt (sym (alike_right laws _ _ _ (at d)) ∙ rising key order xs o j i d n l)) (λ d n. ap is_lt (at d))

      d : X
      d = element xs i l

      f : found key order q xs ≡ Some (get_or xs i d)
      f = there i b d l ∙ ap (λ r. pick r None (Some (get_or xs i d)) None) (at d)
  seat_searched (Err i) l at = seat_none i b (none (cases_lt i (length xs))) l
    where
      point : IsPartitionPoint (λ y. order (key y) q ≡ Less) (λ y. order (key y) q ≡ Greater) xs i
      point = at (searchable_from_sorted laws key xs q sorted)

      b : i ≡ below key order q xs
      b = below_place key order q xs i l (λ j d m. ap is_lt (point.0 j d (omega arith) m)) (λ d m. ap is_lt (point.1 i d (omega arith) m))

      none : (i < length xs) ⊎ (length xs ≤ i) → found key order q xs ≡ None
      none (inl m) = let d = element xs i m in there i b d m ∙ ap (λ r. pick r None (Some (get_or xs i d)) None) (point.1 i d (omega arith) m)
      none (inr m) = found_past key order q xs (omega (arith, b, m))

  -- what `partition_point` asks of rows in order
  pub parted : IsPartitionedBy (λ y. is_lt (order (key y) q)) xs
  parted i j d l m p = go (cases_lt i j)
    where
      go : (i < j) ⊎ (j ≤ i) → is_lt (order (key (get_or xs i d)) q) ≡ true
      go (inl n) = ap is_lt (laws.trans _ _ _ (rising key order xs o i j d n m) (is_less _ p))
      go (inr n) = let e : i ≡ j = omega arith in rw e p

  pub below_parted : (i : ℕ) → i ≤ length xs → IsPartitionPoint (λ y. is_lt (order (key y) q) ≡ true) (λ y. is_lt (order (key y) q) ≡ false) xs i → i ≡ below key order q xs
  below_parted i l point = below_place key order q xs i l (λ j d m. point.0 j d (omega arith) m) (λ d m. point.1 i d (omega arith) m)
