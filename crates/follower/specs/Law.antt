-- The promise of the plain follower, told of one call of the code.
use Rattle.std.specs.Prelude.{◌≡◌, ℕ, suc, pred, ◌-◌, ◌≤◌, ◌⊎◌, List, ◌∷◌, Ok, Err, Result, ◌≢◌}
use Rattle.codes.specs.declared.cause.Cause.{Cause}
use Rattle.codes.specs.declared.lamp.Lamp.TheVariants as lamp
use Rattle.codes.specs.declared.refusal.Refusal.{Refusal}
use Rattle.codes.specs.declared.refusal.Refusal.TheVariants as refusal
use Rattle.book.specs.Plain.{Plain}
use Rattle.book.specs.declared.rows.BookRow.{BookRow}
use Rattle.following.specs.States.{Room, State, red, lamp_of}
use Rattle.following.specs.Calls.{Call, repair, show_lamp, ask, Question, told, answered}
use Rattle.following.specs.Days.{Day, reached, whole_run, after, since, AllBelong}
use Rattle.following.specs.Law.{held_of, missing, Covers, Promise}
use Rattle.following.specs.declared.answers.Ending.TheVariants as ending
use Rattle.follower.specs.declared.call.Answer.{Answer}
use Rattle.follower.specs.declared.call.Answer.TheVariants as answer
use Rattle.follower.specs.Model.{answer_of, rows_after}

-- what one call showed: the states before and after it, its answer, and the lent rows before and after it
pub record Seen : Type 0 where
  pub before : State
  pub behind : State
  pub answer : Result Answer Refusal
  pub rows : List BookRow
  pub rows_behind : List BookRow

-- a question under any other lamp than green is refused, by 1, 3 or 14, and no row is written
abbrev pub Refused : Seen → Type 0
Refused seen =
    ((seen.answer ≡ Err refusal.Dark) ⊎ (seen.answer ≡ Err refusal.Red) ⊎ (seen.answer ≡ Err (refusal.NotGreen (lamp_of seen.before))))
    × (seen.rows_behind ≡ seen.rows)

-- a repair in a gap that is given every missing message, n of them, ends green having fetched n, or red
abbrev pub MendedAll : Seen → ℕ → ℕ → Type 0
MendedAll seen k n =
    ((seen.answer ≡ Ok (answer.Repaired n ending.Green)) × (lamp_of seen.behind ≡ lamp.Green (suc k)))
    ⊎ ((fetched : ℕ) × (i : ℕ) × (cause : Cause) × (seen.answer ≡ Ok (answer.Repaired fetched ending.Red)) × (seen.behind ≡ red i cause))

module _ (room : Room) (day : Day) where
  -- a question under green, wanting n, has the answer, rows or refusal of the whole run after n - 1 messages
  pub record Answers (seen : Seen) (q : Question) (n : ℕ) : Type 0 where
    pub book : Plain
    pub run : whole_run room.for_book day (pred n) ≡ reached book
    pub answer : seen.answer ≡ answer_of (told seen.before (answered book q))
    pub rows : seen.rows_behind ≡ rows_after (told seen.before (answered book q)) seen.rows

  -- what this call itself has to show
  abbrev pub Own : Call → Seen → Type 0
  Own (repair source budget) seen =
      (w k : ℕ) → lamp_of seen.before ≡ lamp.Gap w k → source.session ≡ day.session
      → Covers source w k (held_of seen.before) → missing (held_of seen.before) w (suc k - w) ≤ budget
      → MendedAll seen k (missing (held_of seen.before) w (suc k - w))
  Own show_lamp seen = seen.answer ≡ Ok (answer.Lamp (lamp_of seen.before))
  Own (ask q) seen =
      ((n : ℕ) → lamp_of seen.before ≡ lamp.Green n → Answers seen q n)
      × (((n : ℕ) → lamp_of seen.before ≢ lamp.Green n) → Refused seen)
  Own call seen = Unit {0}

-- for every history that led to the follower: this call leads on from it. And for every day: where all that was accepted
-- since the last accepted start belongs to the day, this call included, the promise holds after the call; and where all that
-- was accepted before the call does, the call itself shows what it has to
abbrev pub Kept : Room → Call → Seen → Type 0
Kept room c seen =
    (history : List Call) → after room history ≡ seen.before
    → (after room (c ∷ history) ≡ seen.behind)
    × ((day : Day)
    → (AllBelong room day (since room (c ∷ history)) → Promise room (c ∷ history) day)
    × (AllBelong room day (since room history) → Own room day c seen))
