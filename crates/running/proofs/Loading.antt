-- The messages of a snapshot, and the held messages from its number on.
use Rattle.std.proofs.Common.{◌≡◌, ℕ, suc, Bool, true, false, cond, List, [], ◌∷◌, map, drop, Option, Result, sym, refl, ap, ◌∙◌}
use Rattle.std.specs.Ordering.{is_lt}
use Rattle.codes.specs.declared.cause.Cause.{Cause}
use Rattle.table.specs.Rows.{below, onward}
use Rattle.book.specs.Keys.{by_number}
use Rattle.book.specs.Plain.{Plain, Slots, ran_there}
use Rattle.book.specs.Runs.{and_then, unless_ended, run_there}
use Rattle.following.specs.States.{number_of, held_from}
use Rattle.running.specs.declared.rows.HeldRow.{HeldRow}
use Rattle.running.specs.Rows.{row_number, held_message}

-- the first message that is left runs
pub one_there :
    (slots : Slots) (book : Plain) (left : List (List ℕ)) (m : List ℕ) (ms : List (List ℕ)) (r : Result (Option ℕ × Plain) Cause) →
    left ≡ m ∷ ms → r ≡ ran_there slots book m → run_there slots left book ≡ and_then r (unless_ended (run_there slots ms))
unfolding run_there
one_there slots book left m ms r e q =
    ap (λ xs. run_there slots xs book) e ∙ ap (λ o. and_then o (unless_ended (run_there slots ms))) (sym q)

-- the rows from a number on hold the messages from it on
pub rows_from : (n : ℕ) (rows : List HeldRow) → map held_message (onward row_number by_number n rows) ≡ held_from n (map held_message rows)
unfolding below
rows_from n [] = refl
rows_from n (r ∷ rows) = go (is_lt (by_number r.number n)) (rows_from n rows)
  where
    go :
        (t : Bool) → map held_message (onward row_number by_number n rows) ≡ held_from n (map held_message rows) →
        map held_message (drop (cond t (suc (below row_number by_number n rows)) 0) (r ∷ rows))
        ≡ drop (cond t (suc (below number_of by_number n (map held_message rows))) 0) (held_message r ∷ map held_message rows)
    go true ih = ih
    go false ih = refl
