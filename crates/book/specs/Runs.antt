-- Whole runs from the empty book, and what holds after each.
use Rattle.std.specs.Prelude.{◌≡◌, ℕ, ◌<◌, ◌≤◌, true, List, [], ◌∷◌, length, is_some, Some, None, Ok, Option, Result, ◌≢◌, slice_index, slice_index_or}
use Rattle.std.specs.List.{AllByRecursion}
use Rattle.codes.specs.declared.cause.Cause.{Cause}
use Rattle.wire.specs.Numbers.{most32, most_price}
use Rattle.wire.specs.declared.order.OrderRow.{OrderRow}
pub use Rattle.book.specs.Plain.{and_then}
use Rattle.book.specs.Plain.{Plain, Slots, empty, stock_of, ran, ran_there}

-- a run goes on from a book until a cause stops it
unfoldable pub run_on : Slots → List (List ℕ) → Plain → Result Plain Cause
run_on slots [] book = Ok book
run_on slots (m ∷ ms) book = and_then (ran slots book m) (run_on slots ms)

abbrev pub reached : Slots → List (List ℕ) → Result Plain Cause
reached slots ms = run_on slots ms empty

-- a snapshot's run, which its End ends
abbrev pub unless_ended : (Plain → Result (Option ℕ × Plain) Cause) → Option ℕ × Plain → Result (Option ℕ × Plain) Cause
unless_ended on (None, book) = on book
unless_ended on (Some next, book) = Ok (Some next, book)

unfoldable pub run_there : Slots → List (List ℕ) → Plain → Result (Option ℕ × Plain) Cause
run_there slots [] book = Ok (None, book)
run_there slots (m ∷ ms) book = and_then (ran_there slots book m) (unless_ended (run_there slots ms))

abbrev pub reached_there : Slots → List (List ℕ) → Result (Option ℕ × Plain) Cause
reached_there slots ms = run_there slots ms empty

-- what holds of every book that a run reaches
pub record Sound (slots : Slots) (book : Plain) : Type 0 where
  -- no live order has zero shares, or a price outside the limit
  pub some_shares : AllByRecursion (λ order. (1 ≤ order.shares) × (order.shares ≤ most32)) book.orders
  pub priced : AllByRecursion (λ order. (1 ≤ order.price) × (order.price ≤ most_price)) book.orders
  -- references are distinct, and the smallest comes first
  pub ascending : (i j : ℕ) (d : OrderRow) → i < j → j < length book.orders → (slice_index_or book.orders i d).reference < (slice_index_or book.orders j d).reference
  -- every live order's symbol has a stock
  pub listed : AllByRecursion (λ order. is_some (stock_of order.symbol book) ≡ true) book.orders
  -- the tables never exceed their slots
  pub stocks_fit : length book.stocks ≤ slots.for_stocks
  pub orders_fit : length book.orders ≤ slots.for_orders

abbrev pub RunsSound : Type 0
RunsSound = (slots : Slots) (ms : List (List ℕ)) (book : Plain) → reached slots ms ≡ Ok book → Sound slots book

abbrev pub SnapshotsSound : Type 0
SnapshotsSound = (slots : Slots) (ms : List (List ℕ)) (next : Option ℕ) (book : Plain) → reached_there slots ms ≡ Ok (next, book) → Sound slots book

-- T changes nothing
abbrev pub SecondsIdle : Type 0
SecondsIdle = (slots : Slots) (book : Plain) (m : List ℕ) → length m ≡ 5 → slice_index m 4 ≡ 84 → ran slots book m ≡ Ok book

-- nor does a message whose letter is none of T, S, H, A, E and X
abbrev pub OthersIdle : Type 0
OthersIdle =
    (slots : Slots) (book : Plain) (m : List ℕ) → 5 ≤ length m
    → (slice_index m 4 ≢ 84) → (slice_index m 4 ≢ 83) → (slice_index m 4 ≢ 72) → (slice_index m 4 ≢ 65) → (slice_index m 4 ≢ 69) → (slice_index m 4 ≢ 88)
    → ran slots book m ≡ Ok book
