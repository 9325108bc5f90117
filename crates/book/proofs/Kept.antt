-- What every message keeps of a book.
use Rattle.std.proofs.Common.{◌≡◌, ℕ, ◌+◌, ◌<◌, ◌≤◌, Bool, true, false, cond, eqb, ltb, length, is_some, Some, None, Ok, Err, Option, Ordering, Less, Equal, Greater, refl, ap, ◌∙◌, subst, arith}
use Rattle.std.specs.Cmp.{nat_cmp_total}
use Rattle.std.specs.List.{AllByRecursion as All}
use Rattle.std.proofs.ByRecursion.{All-weaker}
use Rattle.std.proofs.lemmas.Bool.{ltb-true, ltb-false, eqb-false}
use Rattle.std.proofs.lemmas.Bool.Decides.{nat_tests}
use Rattle.codes.specs.declared.cause.Cause.TheVariants.{LiveReference, NoStock, TableFull, TooManyShares}
use Rattle.codes.specs.declared.status.Status.{Status}
use Rattle.codes.specs.declared.status.Status.TheVariants as state
use Rattle.table.specs.Rows.{found, placed, ordered}
use Rattle.table.proofs.Laws.{found_placed, found_placed_other, length_placed, length_without, ordered_placed, ordered_without}
use Rattle.wire.specs.Messages.{Said, second, event, status, add, execute, cancel, other}
use Rattle.wire.specs.declared.order.OrderRow.{OrderRow}
use Rattle.wire.specs.Names.{Symbol}
use Rattle.book.specs.declared.rows.Stock.{Stock}
use Rattle.book.specs.Keys.{reference_of, name_of, by_number, by_name, within, all_within}
use Rattle.book.specs.Plain.{Plain, Slots, empty, stock_of, order_of, with_event, with_stock, with_order, without_order, told, added, less, reduced, done}
use Rattle.book.specs.Stocks.{unheard, with_state}
use Rattle.book.proofs.Fields.{Fine}
use Rattle.book.proofs.Live.{all_found, all_placed, all_without, found_again, found_within, placed_within, without_within}
use Rattle.std.specs.Cmp.Lexicographic.{lists_total}

-- the order's symbol has a stock
abbrev pub HasStock : Plain → OrderRow → Type 0
HasStock book order = is_some (stock_of order.symbol book) ≡ true

pub record Good (slots : Slots) (book : Plain) : Type 0 where
  pub limits : all_within book.orders ≡ true
  pub rising : ordered reference_of by_number book.orders ≡ true
  pub listed : All (HasStock book) book.orders
  pub stocks_fit : length book.stocks ≤ slots.for_stocks
  pub orders_fit : length book.orders ≤ slots.for_orders

pub good_empty : (slots : Slots) → Good slots empty
good_empty slots = record { limits = refl; rising = refl; listed = tt; stocks_fit = omega arith; orders_fit = omega arith }

-- a stock that is set takes no other away
still_listed : (book : Plain) (stock : Stock) (order : OrderRow) → HasStock book order → HasStock (with_stock stock book) order
still_listed book stock order h = go (by_name (name_of stock) order.symbol.bytes) refl
  where
    other_one : (by_name (name_of stock) order.symbol.bytes ≡ Equal → ⊥) → HasStock (with_stock stock book) order
    other_one n = ap is_some (found_placed_other name_of by_name (lists_total nat_cmp_total) stock book.stocks order.symbol.bytes n) ∙ h

    go : (r : Ordering) → by_name (name_of stock) order.symbol.bytes ≡ r → HasStock (with_stock stock book) order
    go Equal p = ap is_some (found_placed name_of by_name (lists_total nat_cmp_total) stock book.stocks order.symbol.bytes p)
    go Less p = other_one (λ q. cc)
    go Greater p = other_one (λ q. cc)

module _ (slots : Slots) (book : Plain) (good : Good slots book) where
  good_stock : (stock : Stock) → length (placed name_of by_name stock book.stocks) ≤ slots.for_stocks → Good slots (with_stock stock book)
  good_stock stock l =
      record {
        limits = good.limits;
        rising = good.rising;
        listed = All-weaker (HasStock book) (HasStock (with_stock stock book)) (still_listed book stock) book.orders good.listed;
        stocks_fit = l;
        orders_fit = good.orders_fit;
      }

  good_order : (order : OrderRow) → within order ≡ true → HasStock book order → length (placed reference_of by_number order book.orders) ≤ slots.for_orders → Good slots (with_order order book)
  good_order order w s l =
      record {
        limits = placed_within order book.orders w good.limits;
        rising = ordered_placed reference_of by_number nat_cmp_total order book.orders good.rising;
        listed = all_placed (HasStock book) order book.orders s good.listed;
        stocks_fit = good.stocks_fit;
        orders_fit = l;
      }

  good_without : (reference : ℕ) → Good slots (without_order reference book)
  good_without reference =
      record {
        limits = without_within reference book.orders good.limits;
        rising = ordered_without reference_of by_number reference book.orders good.rising;
        listed = all_without (HasStock book) reference book.orders good.listed;
        stocks_fit = good.stocks_fit;
        orders_fit = let l = length_without reference_of by_number reference book.orders in let g = good.orders_fit in omega arith;
      }

  same_name : (s : Status) (stock : Stock) → name_of (with_state s stock) ≡ name_of stock
  same_name (state.Trading _) stock = refl
  same_name (state.ShortSell _) stock = refl

  grown : (stock : Stock) → length (placed name_of by_name stock book.stocks) ≤ length book.stocks + 1
  grown stock = go (is_some (found name_of by_name (name_of stock) book.stocks)) (length_placed name_of by_name stock book.stocks)
    where
      go : (b : Bool) → length (placed name_of by_name stock book.stocks) ≡ length book.stocks + cond b 0 1 → length (placed name_of by_name stock book.stocks) ≤ length book.stocks + 1
      go true e = omega arith
      go false e = omega arith

  grown_order : (order : OrderRow) → length (placed reference_of by_number order book.orders) ≤ length book.orders + 1
  grown_order order = go (is_some (found reference_of by_number order.reference book.orders)) (length_placed reference_of by_number order book.orders)
    where
      go : (b : Bool) → length (placed reference_of by_number order book.orders) ≡ length book.orders + cond b 0 1 → length (placed reference_of by_number order book.orders) ≤ length book.orders + 1
      go true e = omega arith
      go false e = omega arith

  good_told : (symbol : Symbol) (s : Status) (o : Option Stock) (next : Plain) → stock_of symbol book ≡ o → told slots book symbol s o ≡ Ok next → Good slots next
  good_told symbol s None next f e = go (ltb (length book.stocks) slots.for_stocks) refl e
    where
      new : Stock
      new = with_state s (unheard symbol)

      go : (b : Bool) → ltb (length book.stocks) slots.for_stocks ≡ b → cond b (Ok (with_stock new book)) (Err TableFull) ≡ Ok next → Good slots next
      go true p h =
          let is : with_stock new book ≡ next = cc in
          let l : length book.stocks < slots.for_stocks = ltb-true (length book.stocks) slots.for_stocks p in
          let g = grown new in
          subst (Good slots) is (good_stock new (omega arith))
      go false p h = absurd cc
  good_told symbol s (Some stock) next f e =
      let is : with_stock (with_state s stock) book ≡ next = cc in
      let again = found_again name_of by_name (lists_total nat_cmp_total) symbol.bytes book.stocks stock f in
      let there : is_some (found name_of by_name (name_of (with_state s stock)) book.stocks) ≡ true = ap (λ k. is_some (found name_of by_name k book.stocks)) (same_name s stock) ∙ ap is_some again in
      let l : length (placed name_of by_name (with_state s stock) book.stocks) ≡ length book.stocks + 0 =
      length_placed name_of by_name (with_state s stock) book.stocks ∙ ap (λ b. length book.stocks + cond b 0 1) there in
      let g = good.stocks_fit in
      subst (Good slots) is (good_stock (with_state s stock) (omega arith))

  good_added : (order : OrderRow) (next : Plain) → within order ≡ true → added slots book order ≡ Ok next → Good slots next
  good_added order next w e = go (is_some (order_of order.reference book)) (is_some (stock_of order.symbol book)) (ltb (length book.orders) slots.for_orders) refl refl e
    where
      go : (live known free : Bool) → is_some (stock_of order.symbol book) ≡ known → ltb (length book.orders) slots.for_orders ≡ free
          → cond live (Err LiveReference) (cond known (cond free (Ok (with_order order book)) (Err TableFull)) (Err NoStock)) ≡ Ok next → Good slots next
      go true known free p q h = absurd cc
      go false false free p q h = absurd cc
      go false true false p q h = absurd cc
      go false true true p q h =
          let is : with_order order book ≡ next = cc in
          let l : length book.orders < slots.for_orders = ltb-true (length book.orders) slots.for_orders q in
          let g = grown_order order in
          subst (Good slots) is (good_order order w p (omega arith))

  -- shares that remain keep the limits
  less_within : (n : ℕ) (order : OrderRow) → within order ≡ true → n < order.shares → within (less n order) ≡ true
  less_within n order w l = grind (arith, nat_tests)

  good_reduced : (q n : ℕ) (o : Option OrderRow) (next : Plain) → order_of q book ≡ o → reduced book n o ≡ Ok next → Good slots next
  good_reduced q n None next f e = absurd cc
  good_reduced q n (Some order) next f e = go (ltb order.shares n) (eqb order.shares n) refl refl e
    where
      smaller : n < order.shares → Good slots (with_order (less n order) book)
      smaller l =
          let again = found_again reference_of by_number nat_cmp_total q book.orders order f in
          let long : length (placed reference_of by_number (less n order) book.orders) ≡ length book.orders + 0 =
          length_placed reference_of by_number (less n order) book.orders ∙ ap (λ b. length book.orders + cond b 0 1) (ap is_some again) in
          let g = good.orders_fit in
          good_order (less n order) (less_within n order (found_within q book.orders order good.limits f) l) (all_found (HasStock book) q book.orders order good.listed f) (omega arith)

      go : (many all : Bool) → ltb order.shares n ≡ many → eqb order.shares n ≡ all
          → cond many (Err TooManyShares) (Ok (cond all (without_order order.reference book) (with_order (less n order) book))) ≡ Ok next → Good slots next
      go true all p r h = absurd cc
      go false true p r h = let is : without_order order.reference book ≡ next = cc in subst (Good slots) is (good_without order.reference)
      go false false p r h =
          let is : with_order (less n order) book ≡ next = cc in
          let a = ltb-false order.shares n p in
          let b = eqb-false order.shares n r in
          subst (Good slots) is (smaller (omega arith))

  pub good_done : (what : Said) (next : Plain) → Fine what → done slots book what ≡ Ok next → Good slots next
  good_done second next fine e = let is : book ≡ next = cc in subst (Good slots) is good
  good_done (event code) next fine e =
      let is : with_event code book ≡ next = cc in
      subst (Good slots) is (record { limits = good.limits; rising = good.rising; listed = good.listed; stocks_fit = good.stocks_fit; orders_fit = good.orders_fit })
  good_done (status symbol s) next fine e = good_told symbol s (stock_of symbol book) next refl e
  good_done (add order) next fine e = good_added order next fine e
  good_done (execute q n) next fine e = good_reduced q n (order_of q book) next refl e
  good_done (cancel q n) next fine e = good_reduced q n (order_of q book) next refl e
  good_done other next fine e = let is : book ≡ next = cc in subst (Good slots) is good
