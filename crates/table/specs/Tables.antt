-- What a table holds. Assumes nothing.
use Rattle.std.specs.Prelude.{◌≡◌, ℕ, ◌+◌, ◌<◌, ◌≤◌, true, cond, List, ◌++◌, length, take, drop, is_some, Some, None, Ok, Err, Result, MatchResult, nat_lt, slice_index_or, slice_set}
use Rattle.std.specs.declared.cmp.Ordering.{Ordering}
use Rattle.std.specs.List.{insert}
use Rattle.table.specs.Rows.{found, ordered, placed, without}
use Rattle.table.specs.declared.NotAdded.{NotAdded}
use Rattle.table.specs.declared.NotAdded.TheVariants.{Full, Present}
use Rattle.table.specs.declared.Table.{Table}

-- what all slots hold
abbrev pub all_slots : {X B K : Type 0} {r : _} → Table X B K r → List X
all_slots t = t.slots.now

-- the entries, ascending by key
abbrev pub entries : {X B K : Type 0} {r : _} → Table X B K r → List X
entries t = take t.used (all_slots t)

-- how many slots were lent
abbrev pub room : {X B K : Type 0} {r : _} → Table X B K r → ℕ
room t = length (all_slots t)

-- what a call leaves: the entries xs, over as many slots as before
pub record Leaves {X B K : Type 0} {r : _} (old new : Table X B K r) (xs : List X) : Type 0 where
  pub entries : entries new ≡ xs
  pub room : room new ≡ room old

module _ {X K : Type 0} (key : X → K) (order : K → K → Ordering) where
  -- whether a table of n slots with the entries xs takes e
  abbrev pub taken : ℕ → X → List X → Result (Unit {0}) NotAdded
  taken n e xs = cond (is_some (found key order (key e) xs)) (Err Present) (cond (nat_lt (length xs) n) (Ok tt) (Err Full))

  -- what a search for key q answers: the place of its row, or else the place where one would stand,
  -- with what is found, and what an edit at that place leaves
  abbrev pub Seat : K → List X → Result ℕ ℕ → Type 0
  Seat q xs r = MatchResult r
      (λ i. (i < length xs) × (is_some (found key order q xs) ≡ true) × ((d : X) → found key order q xs ≡ Some (slice_index_or xs i d)) × (without key order q xs ≡ take i xs ++ drop (i + 1) xs) × ((e : X) → q ≡ key e → placed key order e xs ≡ slice_set xs i e) × ((e : X) → q ≡ key e → ordered key order (slice_set xs i e) ≡ true))
      (λ i. (i ≤ length xs) × (found key order q xs ≡ None) × (without key order q xs ≡ xs) × ((e : X) → q ≡ key e → placed key order e xs ≡ insert xs i e) × ((e : X) → q ≡ key e → ordered key order (insert xs i e) ≡ true))
