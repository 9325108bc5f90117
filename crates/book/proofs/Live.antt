-- Rows that were found, and live orders within the limits.
use Rattle.std.proofs.Common.{◌≡◌, ℕ, Bool, true, false, cond, List, [], ◌∷◌, IfSome, Some, None, Option, Ordering, Less, Equal, Greater, sym, refl, ◌∙◌, subst}
use Rattle.std.specs.Cmp.{IsTotalOrder, nat_cmp_total}
use Rattle.std.specs.List.{AllByRecursion as All}
use Rattle.std.specs.Option.{option_map}
use Rattle.std.proofs.lemmas.Bool.{and_from, and_parts, cond-true}
use Rattle.table.specs.Rows.{pick, found, placed, without}
use Rattle.table.proofs.Laws.{found_stored, found_alike}
use Rattle.wire.specs.Messages.{row_of, checked}
use Rattle.wire.specs.declared.order.Order.{Order}
use Rattle.wire.specs.declared.order.OrderRow.{OrderRow}
use Rattle.wire.specs.Names.{Symbol}
use Rattle.book.specs.declared.rows.Stock.{Stock}
use Rattle.book.specs.Keys.{reference_of, name_of, by_number, by_name, within, all_within}
use Rattle.std.specs.Cmp.Lexicographic.{lists_total}

-- a row that was found is found by its own key
pub found_again : {X K : Type 0} (key : X → K) (order : K → K → Ordering) → IsTotalOrder order → (q : K) (xs : List X) (x : X) → found key order q xs ≡ Some x → found key order (key x) xs ≡ Some x
found_again key order laws q xs x f = found_alike key order laws (key x) q xs (found_stored key order q xs x f).1 ∙ f

-- what holds of each row
pub all_placed : (P : OrderRow → Type 0) (x : OrderRow) (xs : List OrderRow) → P x → All P xs → All P (placed reference_of by_number x xs)
unfolding placed
all_placed P x [] p a = (p, tt)
all_placed P x (y ∷ ys) p a = go (all_placed P x ys p a.1) (by_number y.reference x.reference)
  where
    go : All P (placed reference_of by_number x ys) → (r : Ordering) → All P (pick r (y ∷ placed reference_of by_number x ys) (x ∷ ys) (x ∷ y ∷ ys))
    go ih Less = (a.0, ih)
    go ih Equal = (p, a.1)
    go ih Greater = (p, a)

pub all_without : (P : OrderRow → Type 0) (q : ℕ) (xs : List OrderRow) → All P xs → All P (without reference_of by_number q xs)
unfolding without
all_without P q [] a = tt
all_without P q (y ∷ ys) a = go (all_without P q ys a.1) (by_number y.reference q)
  where
    go : All P (without reference_of by_number q ys) → (r : Ordering) → All P (pick r (y ∷ without reference_of by_number q ys) ys (y ∷ ys))
    go ih Less = (a.0, ih)
    go ih Equal = a.1
    go ih Greater = a

pub all_found : (P : OrderRow → Type 0) (q : ℕ) (xs : List OrderRow) (x : OrderRow) → All P xs → found reference_of by_number q xs ≡ Some x → P x
unfolding found
all_found P q [] x a f = absurd cc
all_found P q (y ∷ ys) x a f = go (all_found P q ys x a.1) (by_number y.reference q) refl
  where
    go : (found reference_of by_number q ys ≡ Some x → P x) → (r : Ordering) → by_number y.reference q ≡ r → P x
    go ih Less p = ih (rw p at f)
    go ih Equal p = let e : Some y ≡ Some x = rw p at f in let s : y ≡ x = cc in subst P s a.0
    go ih Greater p = let e : None ≡ Some x = rw p at f in absurd cc

-- the limits, as a fact of each order
abbrev pub IsWithin : OrderRow → Type 0
IsWithin order = within order ≡ true

pub each_within : (xs : List OrderRow) → all_within xs ≡ true → All IsWithin xs
each_within [] a = tt
each_within (x ∷ xs) a = let t = and_parts (within x) (all_within xs) a in (t.0, each_within xs t.1)

all_from_each : (xs : List OrderRow) → All IsWithin xs → all_within xs ≡ true
all_from_each [] a = refl
all_from_each (x ∷ xs) a = and_from (within x) (all_within xs) a.0 (all_from_each xs a.1)

pub found_within : (q : ℕ) (xs : List OrderRow) (x : OrderRow) → all_within xs ≡ true → found reference_of by_number q xs ≡ Some x → within x ≡ true
found_within q xs x a = all_found IsWithin q xs x (each_within xs a)

pub placed_within : (x : OrderRow) (xs : List OrderRow) → within x ≡ true → all_within xs ≡ true → all_within (placed reference_of by_number x xs) ≡ true
placed_within x xs w a = all_from_each _ (all_placed IsWithin x xs w (each_within xs a))

pub without_within : (q : ℕ) (xs : List OrderRow) → all_within xs ≡ true → all_within (without reference_of by_number q xs) ≡ true
without_within q xs a = all_from_each _ (all_without IsWithin q xs (each_within xs a))

-- the limits are kept whether or not a row was put in
pub put_within : (b : Bool) (x : OrderRow) (xs : List OrderRow) → within x ≡ true → all_within xs ≡ true → all_within (cond b (placed reference_of by_number x xs) xs) ≡ true
put_within true x xs w a = placed_within x xs w a
put_within false x xs w a = a

-- an order that is made of a live row has its fields, and is live
pub made_again : (q : ℕ) (xs : List OrderRow) (row : OrderRow) (o : Option Order) → all_within xs ≡ true → found reference_of by_number q xs ≡ Some row → option_map row_of o ≡ checked row → option_map row_of o ≡ found reference_of by_number q xs
made_again q xs row o a f e = e ∙ cond-true _ _ _ (found_within q xs row a f) ∙ sym f

pub made_live : (q : ℕ) (xs : List OrderRow) (o : Option Order) → option_map row_of o ≡ found reference_of by_number q xs → IfSome o (λ order. found reference_of by_number (row_of order).reference xs ≡ Some (row_of order))
made_live q xs None e = tt
made_live q xs (Some order) e = found_again reference_of by_number nat_cmp_total q xs (row_of order) (sym e)

-- a stock that was found is found by its own symbol
pub stock_there : (symbol : Symbol) (xs : List Stock) (o : Option Stock) → o ≡ found name_of by_name symbol.bytes xs → IfSome o (λ stock. found name_of by_name (name_of stock) xs ≡ Some stock)
stock_there symbol xs None e = tt
stock_there symbol xs (Some stock) e = found_again name_of by_name (lists_total nat_cmp_total) symbol.bytes xs stock (sym e)
