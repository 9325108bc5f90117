-- The rows of an answer, order by order.
use Rattle.std.proofs.Common.{◌≡◌, ℕ, suc, ◌+◌, ◌<◌, ◌≤◌, List, [], ◌∷◌, ◌++◌, map, length, get_or, take, drop, set, sym, ap, ◌∙◌, arith, drop-cons}
use Rattle.std.specs.List.{enumerate_from}
use Rattle.std.proofs.lemmas.List.{append_assoc, length-map, length-take-le, map-append, set_at, take_all, take_more}
use Rattle.std.proofs.lemmas.List.FromFn.{get_or-enumerate_from, length-enumerate_from}
use Rattle.wire.specs.declared.order.OrderRow.{OrderRow}
use Rattle.book.specs.declared.rows.BookRow.{BookRow}
use Rattle.book.specs.Questions.{shown}

module _ (orders : List OrderRow) where
  -- the place of an order among those that are numbered
  pub numbered : (k n : ℕ) (order : OrderRow) → k < length (enumerate_from 0 orders) → ◌≡◌ {A = ℕ × OrderRow} (n, order) (get_or (enumerate_from 0 orders) k (n, order)) → (k < length orders) × (n ≡ k) × (order ≡ get_or orders k order)
  numbered k n order l e = (inside, ap (λ (p : ℕ × OrderRow). p.0) is, ap (λ (p : ℕ × OrderRow). p.1) is)
    where
      inside : k < length orders
      inside = omega (arith, l, length-enumerate_from 0 orders)

      is : ◌≡◌ {A = ℕ × OrderRow} (n, order) (k, get_or orders k order)
      is = let none : 0 + k ≡ k = omega arith in e ∙ get_or-enumerate_from 0 orders k (n, order) inside ∙ ap (λ (i : ℕ). let p : ℕ × OrderRow = (i, get_or orders k order) in p) none

  -- the first k of them at the front of lent rows
  abbrev pub front : List BookRow → ℕ → List BookRow
  front lent k = map shown (take k orders) ++ drop k lent

  pub front_more : (lent : List BookRow) (k : ℕ) (order : OrderRow) → k < length orders → length orders ≤ length lent → order ≡ get_or orders k order → set (front lent k) k (shown order) ≡ front lent (k + 1)
  front_more lent k order l m e =
      let one : suc k ≡ k + 1 = omega arith in
      let n : k ≡ length (map shown (take k orders)) = sym (length-map (take k orders) shown ∙ length-take-le k orders (omega arith)) in
      let more : map shown (take (k + 1) orders) ≡ map shown (take k orders) ++ shown order ∷ [] = ap (map shown) (take_more orders k order l ∙ ap (λ o. take k orders ++ o ∷ []) (sym e)) ∙ map-append shown (take k orders) (order ∷ []) in
      ap (λ (t : List BookRow). set (map shown (take k orders) ++ t) k (shown order)) (drop-cons lent k (shown order) (omega arith))
      ∙ set_at (map shown (take k orders)) (get_or lent k (shown order)) (drop (suc k) lent) (shown order) k (sym n)
      ∙ ap (λ (i : ℕ). map shown (take k orders) ++ shown order ∷ drop i lent) one
      ∙ sym (append_assoc (map shown (take k orders)) (shown order ∷ []) (drop (k + 1) lent))
      ∙ ap (λ (t : List BookRow). t ++ drop (k + 1) lent) (sym more)

  pub front_all : (lent : List BookRow) (k : ℕ) → k ≡ length (enumerate_from 0 orders) → front lent k ≡ map shown orders ++ drop (length (map shown orders)) lent
  front_all lent k e =
      let n : k ≡ length orders = e ∙ length-enumerate_from 0 orders in
      ap (λ (t : List OrderRow). map shown t ++ drop k lent) (take_all k orders (omega arith))
      ∙ ap (λ (i : ℕ). map shown orders ++ drop i lent) (n ∙ sym (length-map orders shown))
