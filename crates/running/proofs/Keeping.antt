-- Held rows in the words of the plain follower: what is held, and what is added.
use Rattle.std.proofs.Common.{◌≡◌, ℕ, ◌≤◌, Bool, true, false, cond, ltb, List, [], ◌∷◌, map, length, is_some, is_ok, Some, None, Ok, Err, Result, Ordering, Less, Equal, Greater, sym, refl, ap, ◌∙◌, subst}
use Rattle.std.proofs.lemmas.List.{length-map}
use Rattle.std.proofs.lemmas.Bool.{cond-false, le-ltb, ne_eqb}
use Rattle.table.specs.Rows.{pick, found, placed}
use Rattle.table.specs.Tables.{taken}
use Rattle.table.specs.declared.NotAdded.{NotAdded}
use Rattle.table.specs.declared.NotAdded.TheVariants.{Present, Full}
use Rattle.book.specs.Keys.{by_number}
use Rattle.following.specs.States.{Room, Held, Wanting, number_of, is_held, with_held}
use Rattle.following.specs.Follower.{Place, bookless, wanting, Fate, kept, treated, run_wanted}
use Rattle.following.specs.Follower as spec
use Rattle.running.specs.declared.rows.HeldRow.{HeldRow}
use Rattle.running.specs.declared.runner.Runner.{Runner}
use Rattle.running.specs.declared.moves.Wanted.{Wanted as WantedOf}
use Rattle.running.specs.Runners.{held_in, book_in, Reached, place_in}
use Rattle.running.specs.Rows.{row_number, message_in, held_message}

-- a row is found where its message is held
pub found_held : (k : ℕ) (xs : List HeldRow) → is_some (found row_number by_number k xs) ≡ is_held k (map held_message xs)
unfolding found
found_held k [] = refl
found_held k (x ∷ xs) = go (by_number x.number k) (found_held k xs)
  where
    go :
        (r : Ordering) → is_some (found row_number by_number k xs) ≡ is_held k (map held_message xs) →
        is_some (pick r (found row_number by_number k xs) (Some x) None) ≡ is_some (pick r (found number_of by_number k (map held_message xs)) (Some (held_message x)) None)
    go Less ih = ih
    go Equal ih = refl
    go Greater ih = refl

-- a row is put where its message goes
pub placed_held : (row : HeldRow) (xs : List HeldRow) → map held_message (placed row_number by_number row xs) ≡ with_held (row_number row) (message_in row) (map held_message xs)
unfolding placed
placed_held row [] = refl
placed_held row (x ∷ xs) = go (by_number x.number row.number) (placed_held row xs)
  where
    go :
        (r : Ordering) → map held_message (placed row_number by_number row xs) ≡ with_held (row_number row) (message_in row) (map held_message xs) →
        map held_message (pick r (x ∷ placed row_number by_number row xs) (row ∷ xs) (row ∷ x ∷ xs))
        ≡ pick r (held_message x ∷ with_held (row_number row) (message_in row) (map held_message xs)) (held_message row ∷ map held_message xs) (held_message row ∷ held_message x ∷ map held_message xs)
    go Less ih = ap (λ hs. held_message x ∷ hs) ih
    go Equal ih = refl
    go Greater ih = refl

-- what the table's answer says of the message
abbrev pub fate_by : Result (Unit {0}) NotAdded → Fate
fate_by (Ok u) = spec.taken
fate_by (Err Present) = spec.repeated
fate_by (Err Full) = spec.dropped

-- the rows after the table's answer
abbrev pub rows_by : Result (Unit {0}) NotAdded → HeldRow → List HeldRow → List HeldRow
rows_by r row xs = cond (is_ok r) (placed row_number by_number row xs) xs

module _ (room : Room) (place : List Held → Place) (row : HeldRow) (xs : List HeldRow) where
  abbrev answer : Result (Unit {0}) NotAdded → Fate × Place
  answer r = (fate_by r, place (map held_message (rows_by r row xs)))

  by_tests :
      (held free : Bool) →
      answer (cond held (Err Present) (cond free (Ok tt) (Err Full)))
      ≡ cond held (spec.repeated, place (map held_message xs)) (cond free (spec.taken, place (map held_message (placed row_number by_number row xs))) (spec.dropped, place (map held_message xs)))
  by_tests true free = refl
  by_tests false true = refl
  by_tests false false = refl

  -- the table's answer is the plain follower's
  pub kept_by :
      (r : Result (Unit {0}) NotAdded) (after : List HeldRow) →
      r ≡ taken row_number by_number room.for_held row xs → after ≡ rows_by r row xs →
      (fate_by r, place (map held_message after)) ≡ kept room place (map held_message xs) (row_number row) (message_in row)
  kept_by r after e a =
      let here : Fate × Place = (spec.repeated, place (map held_message xs)) in
      let full : Fate × Place = (spec.dropped, place (map held_message xs)) in
      let free : Bool = ltb (length xs) room.for_held in
      ap (λ ys. (fate_by r, place (map held_message ys))) a
      ∙ ap answer e
      ∙ by_tests (is_some (found row_number by_number (row_number row) xs)) free
      ∙ ap (λ b. cond b here (cond free (spec.taken, place (map held_message (placed row_number by_number row xs))) full)) (found_held (row_number row) xs)
      ∙ ap (λ n. cond (is_held (row_number row) (map held_message xs)) here (cond (ltb n room.for_held) (spec.taken, place (map held_message (placed row_number by_number row xs))) full)) (sym (length-map xs held_message))
      ∙ ap (λ hs. cond (is_held (row_number row) (map held_message xs)) here (cond (ltb (length (map held_message xs)) room.for_held) (spec.taken, place hs) full)) (placed_held row xs)

-- and so of a row that was made for a message
pub kept_of :
    (room : Room) (row : HeldRow) (xs : List HeldRow) (k : ℕ) (m : List ℕ) (r : Result (Unit {0}) NotAdded) (after : List HeldRow) →
    row_number row ≡ k → message_in row ≡ m →
    r ≡ taken row_number by_number room.for_held row xs → after ≡ rows_by r row xs →
    (place : List Held → Place) → (fate_by r, place (map held_message after)) ≡ kept room place (map held_message xs) k m
kept_of room row xs k m r after n b e a place =
    kept_by room place row xs r after e a
    ∙ ap (λ i. kept room place (map held_message xs) i (message_in row)) n
    ∙ ap (kept room place (map held_message xs) k) b

-- one message of a packet, by where the messages have led
module _ (room : Room) (before : Runner) (reached : Reached) (k : ℕ) (m : List ℕ) where
  pub treated_bookless :
      (after : Runner) (fate : Fate) → reached ≡ Ok None →
      (fate, bookless (held_in after)) ≡ kept room bookless (held_in before) k m →
      (fate, place_in after reached) ≡ treated room (place_in before reached) k m
  unfolding treated
  treated_bookless after fate e h = let P : Reached → Type 0 = λ r. (fate, place_in after r) ≡ treated room (place_in before r) k m in subst P (sym e) h

  module _ (w : WantedOf) (e : reached ≡ Ok (Some w)) where
    abbrev here : Wanting
    here = record { book = book_in before; wanted = w.number }

    pub treated_above :
        w.number ≤ k → (k ≡ w.number → ⊥) → (after : Runner) (fate : Fate) → book_in after ≡ book_in before →
        (fate, wanting here (held_in after)) ≡ kept room (wanting here) (held_in before) k m →
        (fate, place_in after reached) ≡ treated room (place_in before reached) k m
    unfolding treated
    treated_above l n after fate b h =
        ap (λ r. (fate, place_in after r)) e
        ∙ ap (λ x. (fate, wanting (record { book = x; wanted = w.number }) (held_in after))) b
        ∙ h
        ∙ sym (cond-false _ _ _ (ne_eqb k w.number n))
        ∙ sym (cond-false _ _ _ (le-ltb k w.number l))
        ∙ ap (λ r. treated room (place_in before r) k m) (sym e)
