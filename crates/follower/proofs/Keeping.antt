-- The promise of the plain follower holds of one call of the code.
use Rattle.std.proofs.Common.{◌≡◌, ℕ, suc, pred, ◌-◌, ◌≤◌, ◌⊎◌, List, ◌∷◌, Ok, sym, ap, ◌∙◌, subst, inl, inr, arith}
use Rattle.codes.specs.declared.cause.Cause.{Cause}
use Rattle.codes.specs.declared.lamp.Lamp.TheVariants as lamp
use Rattle.source.specs.Meanings.{Meaning}
use Rattle.following.specs.States.{Room, red, lamp_of}
use Rattle.following.specs.Calls.{Call, repair, show_lamp, ask, Question, Outcome, told, answered}
use Rattle.following.specs.Follower.{outcome, moved}
use Rattle.following.specs.Days.{Day, whole_run, after, since, highest_in, AllBelong}
use Rattle.following.specs.Law.{held_of, missing, Covers, Refuses, Mends}
use Rattle.following.specs.declared.answers.Ending.TheVariants as ending
use Rattle.following.proofs.Promises.{law}
use Rattle.following.proofs.Further.{lamp_is_shown}
use Rattle.follower.specs.declared.call.Answer.TheVariants as answer
use Rattle.follower.specs.Model.{answer_of, rows_after}
use Rattle.follower.specs.Law.{Seen, Answers, Refused, MendedAll, Own, Kept}

-- how a call came out, in what it showed
pub record Shown (room : Room) (c : Call) (seen : Seen) : Type 0 where
  pub state : seen.behind ≡ moved (outcome room seen.before c) seen.before
  pub answer : seen.answer ≡ answer_of (outcome room seen.before c)
  pub rows : seen.rows_behind ≡ rows_after (outcome room seen.before c) seen.rows

module _ (room : Room) (seen : Seen) (history : List Call) (led : after room history ≡ seen.before) where
  -- how it came out, by the history
  here : (c : Call) (o : Outcome) → outcome room (after room history) c ≡ o → outcome room seen.before c ≡ o
  here c o e = ap (λ s. outcome room s c) (sym led) ∙ e

  leads : (c : Call) → Shown room c seen → after room (c ∷ history) ≡ seen.behind
  unfolding after
  leads c s = ap (λ x. moved (outcome room x c) x) led ∙ sym s.state

  own_lamp : (day : Day) → Shown room show_lamp seen → Own room day show_lamp seen
  own_lamp day s = s.answer ∙ ap answer_of (here show_lamp _ (lamp_is_shown room history)) ∙ ap (λ x. Ok (answer.Lamp (lamp_of x))) led

  green_answers : (day : Day) (q : Question) → Shown room (ask q) seen → AllBelong room day (since room history) → (n : ℕ) → lamp_of seen.before ≡ lamp.Green n → Answers room day seen q n
  green_answers day q s ok n g =
      let r = (law room history day ok).green_right n (ap lamp_of led ∙ g) in
      let o = here (ask q) _ (r.asks q) ∙ ap (λ x. told x (answered r.book q)) led in
      let m : pred n ≡ highest_in room (since room history) = omega (arith, r.last) in
      record {
        book = r.book;
        run = ap (whole_run room.for_book day) m ∙ r.run;
        answer = s.answer ∙ ap answer_of o;
        rows = s.rows ∙ ap (λ x. rows_after x seen.rows) o;
      }

  refuses : (q : Question) → Shown room (ask q) seen → Refuses room seen.before q → Refused seen
  refuses q s (inl e) = (inl (s.answer ∙ ap answer_of e), s.rows ∙ ap (λ x. rows_after x seen.rows) e)
  refuses q s (inr (inl e)) = (inr (inl (s.answer ∙ ap answer_of e)), s.rows ∙ ap (λ x. rows_after x seen.rows) e)
  refuses q s (inr (inr e)) = (inr (inr (s.answer ∙ ap answer_of e)), s.rows ∙ ap (λ x. rows_after x seen.rows) e)

  no_answer : (day : Day) (q : Question) → Shown room (ask q) seen → AllBelong room day (since room history) → ((n : ℕ) → lamp_of seen.before ≡ lamp.Green n → ⊥) → Refused seen
  no_answer day q s ok g =
      refuses q s (subst (λ x. Refuses room x q) led ((law room history day ok).no_book (λ n e. g n (ap lamp_of (sym led) ∙ e)) q))

  mends :
      (source : Meaning) (budget k n : ℕ) → Shown room (repair source budget) seen → Mends room seen.before source budget k n → MendedAll seen k n
  mends source budget k n s m = go m.ends
    where
      state : seen.behind ≡ m.next
      state = s.state ∙ ap (λ o. moved o seen.before) m.answers

      said : seen.answer ≡ Ok (answer.Repaired m.fetched m.how)
      said = s.answer ∙ ap answer_of m.answers

      go :
          ((m.how ≡ ending.Green) × (m.fetched ≡ n) × (lamp_of m.next ≡ lamp.Green (suc k)))
          ⊎ ((m.how ≡ ending.Red) × ((i : ℕ) × (cause : Cause) × (m.next ≡ red i cause))) → MendedAll seen k n
      go (inl e) =
          inl (said ∙ ap (λ h. Ok (answer.Repaired m.fetched h)) e.0 ∙ ap (λ f. Ok (answer.Repaired f ending.Green)) e.1, ap lamp_of state ∙ e.2)
      go (inr e) = inr (m.fetched, e.1.0, e.1.1, said ∙ ap (λ h. Ok (answer.Repaired m.fetched h)) e.0, state ∙ e.1.2)

  own : (day : Day) (c : Call) → Shown room c seen → AllBelong room day (since room history) → Own room day c seen
  own day (repair source budget) s ok = λ w k g ours cov enough.
      mends source budget k (missing (held_of seen.before) w (suc k - w)) s
      (subst (λ x. (w k : ℕ) → lamp_of x ≡ lamp.Gap w k → Covers source w k (held_of x) → missing (held_of x) w (suc k - w) ≤ budget → Mends room x source budget k (missing (held_of x) w (suc k - w))) led
      (λ w k g cov enough. (law room history day ok).gap_mends w k g source budget ours cov enough) w k g cov enough)
  own day show_lamp s ok = own_lamp day s
  own day (ask q) s ok = (green_answers day q s ok, no_answer day q s ok)
  own day call s ok = tt

pub kept : (room : Room) (c : Call) (seen : Seen) → Shown room c seen → Kept room c seen
kept room c seen s history led =
    (leads room seen history led c s, λ day. ((λ ok. law room (c ∷ history) day ok), own room seen history led day c s))
