-- Held rows, one after another: what each does to a run of held messages.
use Rattle.std.proofs.Common.{◌≡◌, ℕ, suc, ◌+◌, ◌<◌, ◌≤◌, List, map, length, get_or, drop, Result, sym, ap, ◌∙◌, add-one, eq-eqb, ne_eqb}
use Rattle.std.proofs.lemmas.List.{at_drop_more, at_drop_all}
use Rattle.std.proofs.lemmas.Bool.{cond-true, cond-false}
use Rattle.codes.specs.declared.cause.Cause.{Cause}
use Rattle.book.specs.Plain.{Plain, ran}
use Rattle.following.specs.States.{Room, Held}
use Rattle.following.specs.Follower.{wanting, going_on, run_held, run_wanted}
use Rattle.table.specs.Tables.{room}
use Rattle.running.specs.declared.rows.HeldRow.{HeldRow}
use Rattle.running.specs.Rows.{row_number, message_in, held_message}

-- held rows are run from place i on
module _ (room : Room) (book : Plain) (w : ℕ) (rows : List HeldRow) (i : ℕ) where
  -- there it stands still
  abbrev pub Waits : Type 0
  Waits = run_held room book w (map held_message (drop i rows)) ≡ wanting (record { book = book; wanted = w }) (map held_message (drop i rows))

  pub rows_end : length rows ≤ i → Waits
  unfolding run_held
  rows_end l =
      at_drop_all (λ rs. run_held room book w (map held_message rs)) rows i l
      ∙ sym (at_drop_all (λ rs. wanting (record { book = book; wanted = w }) (map held_message rs)) rows i l)

  module _ (row : HeldRow) (l : i < length rows) (here : row ≡ get_or rows i row) where
    -- another number than the wanted one ends the run
    pub row_waits : (row.number ≡ w → ⊥) → Waits
    unfolding run_held
    row_waits n =
        at_drop_more (λ rs. run_held room book w (map held_message rs)) rows i row l
        ∙ cond-false _ _ _ (ne_eqb (get_or rows i row).number w (λ q. n (ap row_number here ∙ q)))
        ∙ sym (at_drop_more (λ rs. wanting (record { book = book; wanted = w }) (map held_message rs)) rows i row l)

    -- the wanted one runs
    pub row_runs :
        (r : Result Plain Cause) → row.number ≡ w → r ≡ ran room.for_book book (message_in row) →
        run_held room book w (map held_message (drop i rows)) ≡ going_on w r (λ b. run_held room b (w + 1) (map held_message (drop (i + 1) rows)))
    unfolding run_held
    row_runs r e q =
        at_drop_more (λ rs. run_held room book w (map held_message rs)) rows i row l
        ∙ cond-true _ _ _ (eq-eqb (get_or rows i row).number w (sym (ap row_number here) ∙ e))
        ∙ ap (λ o. going_on w o (λ b. run_held room b (suc w) (map held_message (drop (i + 1) rows)))) (sym (q ∙ ap (λ x. ran room.for_book book (message_in x)) here))
        ∙ ap (λ n. going_on w r (λ b. run_held room b n (map held_message (drop (i + 1) rows)))) (sym (add-one w))

-- the wanted message of a packet or a source runs
pub wanted_runs :
    (room : Room) (book : Plain) (w : ℕ) (x : List ℕ) (held : List Held) (r : Result Plain Cause) → r ≡ ran room.for_book book x →
    going_on w r (λ b. run_held room b (w + 1) held) ≡ run_wanted room (record { book = book; wanted = w }) x held
unfolding run_wanted
wanted_runs room book w x held r q =
    ap (λ o. going_on w o (λ b. run_held room b (w + 1) held)) q
    ∙ ap (λ n. going_on w (ran room.for_book book x) (λ b. run_held room b n held)) (add-one w)
