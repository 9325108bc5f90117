-- How calls come out, by the state of the code.
use Rattle.std.proofs.Common.{◌≡◌, ℕ, Bool, true, false, List, [], Some, None, Ok, Err, Option, Result, sym, refl, ap, ◌∙◌}
use Rattle.std.specs.Option.{MatchOption}
use Rattle.codes.specs.declared.cause.Cause.{Cause}
use Rattle.codes.specs.declared.refusal.Refusal.{Refusal}
use Rattle.codes.specs.declared.refusal.Refusal.TheVariants as refusal
use Rattle.wire.specs.Names.{Session}
use Rattle.source.specs.Meanings.{Meaning}
use Rattle.source.specs.Pairs.{same_session}
use Rattle.book.specs.Plain.{Plain, empty}
use Rattle.following.specs.States.{Room, Held, State, dark, red, started, begun}
use Rattle.following.specs.Calls.{Call, Question, start_at_one, start_by_snapshot, stop, packet, snapshot, repair, ask, Reply, done, Outcome, refused, accepted}
use Rattle.following.specs.Follower.{agrees, outcome, while_dark, while_red, while_started, moved}
use Rattle.running.specs.declared.moves.Wanted.{Wanted as WantedOf}
use Rattle.follower.specs.declared.call.Answer.{Answer}
use Rattle.follower.specs.declared.follower.Follower.{Follower}
use Rattle.follower.specs.declared.state.Started.{Started as StartedOf}
use Rattle.follower.specs.declared.state.State.{State as StateOf}
use Rattle.follower.specs.declared.state.State.TheVariants as state
use Rattle.follower.specs.Steps.{StartsAtOne, start_of, started_in}
use Rattle.follower.specs.Modelled.{modelled, wanting_at}
use Rattle.follower.specs.Model.{model, slots_of, answer_as, answer_of, CameOut}

-- an accepted call, and a refused one
pub came_accepted :
    (before after : Follower) (o : Outcome) (t : State) (reply : Reply) (r : Result Answer Refusal) →
    o ≡ accepted t reply → model after ≡ t → r ≡ Ok (answer_as reply) → slots_of after ≡ slots_of before → CameOut before after o r
came_accepted before after o t reply r e m a s =
    record { state = m ∙ ap (λ x. moved x (model before)) (sym e); answer = a ∙ ap answer_of (sym e); room = s }

pub came_refused :
    (before after : Follower) (o : Outcome) (why : Refusal) (r : Result Answer Refusal) →
    o ≡ refused why → model after ≡ model before → r ≡ Err why → slots_of after ≡ slots_of before → CameOut before after o r
came_refused before after o why r e m a s =
    record { state = m ∙ ap (λ x. moved x (model before)) (sym e); answer = a ∙ ap answer_of (sym e); room = s }

module _ (room : Room) (book : Plain) (held : List Held) where
  pub starts :
      (s : StateOf) (wanted : Option WantedOf) → s ≡ state.Dark → StartsAtOne wanted →
      outcome room (modelled s book held) (start_of wanted) ≡ accepted (begun (wanting_at wanted empty)) done
  unfolding outcome while_dark
  starts s None e n = ap (λ x. outcome room (modelled x book held) start_by_snapshot) e
  starts s (Some w) e n =
      ap (λ x. outcome room (modelled x book held) start_at_one) e
      ∙ ap (λ k. accepted (begun (Some (record { book = empty; wanted = k }))) done) (sym n)

  pub starts_not :
      (s : StateOf) (wanted : Option WantedOf) → (s ≡ state.Dark → ⊥) → outcome room (modelled s book held) (start_of wanted) ≡ refused refusal.NotDark
  unfolding outcome while_red while_started
  starts_not state.Dark wanted n = absurd (n refl)
  starts_not (state.Red at) None n = refl
  starts_not (state.Red at) (Some w) n = refl
  starts_not (state.Started s) None n = refl
  starts_not (state.Started s) (Some w) n = refl

  pub stops_not : (s : StateOf) → s ≡ state.Dark → outcome room (modelled s book held) stop ≡ refused refusal.Dark
  unfolding outcome while_dark
  stops_not s e = ap (λ x. outcome room (modelled x book held) stop) e

  pub stops : (s : StateOf) → (s ≡ state.Dark → ⊥) → outcome room (modelled s book held) stop ≡ accepted dark done
  unfolding outcome while_red while_started
  stops state.Dark n = absurd (n refl)
  stops (state.Red at) n = refl
  stops (state.Started s) n = refl

-- a call for a started follower, at any other state
module _ (room : Room) (book : Plain) (held : List Held) (s : StateOf) (why : Refusal) (e : Err why ≡ started_in s) where
  unstarted :
      (c : Call) → outcome room dark c ≡ refused refusal.Dark → ((k : ℕ) (cause : Cause) → outcome room (red k cause) c ≡ refused refusal.Red) →
      outcome room (modelled s book held) c ≡ refused why
  unstarted c d r = go s e
    where
      go : (s : StateOf) → Err why ≡ started_in s → outcome room (modelled s book held) c ≡ refused why
      go state.Dark e = let w : refusal.Dark ≡ why = cc in d ∙ ap refused w
      go (state.Red at) e = let w : refusal.Red ≡ why = cc in r at.number at.cause ∙ ap refused w
      go (state.Started x) e = absurd cc

  pub no_packet : (bytes : List ℕ) → outcome room (modelled s book held) (packet bytes) ≡ refused why
  unfolding outcome while_dark while_red
  no_packet bytes = unstarted (packet bytes) refl (λ k cause. refl)

  pub no_snapshot : (bytes : List ℕ) → outcome room (modelled s book held) (snapshot bytes) ≡ refused why
  unfolding outcome while_dark while_red
  no_snapshot bytes = unstarted (snapshot bytes) refl (λ k cause. refl)

  pub no_repair : (source : Meaning) (budget : ℕ) → outcome room (modelled s book held) (repair source budget) ≡ refused why
  unfolding outcome while_dark while_red
  no_repair source budget = unstarted (repair source budget) refl (λ k cause. refl)

  pub no_question : (q : Question) → outcome room (modelled s book held) (ask q) ≡ refused why
  unfolding outcome while_dark while_red
  no_question q = unstarted (ask q) refl (λ k cause. refl)

pub is_started : (s : StateOf) (x : StartedOf) → Ok x ≡ started_in s → s ≡ state.Started x
is_started state.Dark x e = absurd cc
is_started (state.Red at) x e = absurd cc
is_started (state.Started y) x e = cc

-- sessions
pub agrees_by :
    (known : Option Session) (session : Session) (b : Bool) {P : Session → Type 0} → MatchOption known (b ≡ true) P →
    ((k : Session) → P k → b ≡ same_session k session) → b ≡ agrees known session
unfolding agrees
agrees_by None session b h f = h
agrees_by (Some k) session b h f = f k h

-- a start over an emptied book
pub begun_at :
    (wanted : Option WantedOf) (book : Plain) (held : List Held) → book ≡ empty → held ≡ [] →
    started (record { session = None; book = wanting_at wanted book; heard = false; highest = 0; held = held }) ≡ begun (wanting_at wanted empty)
begun_at wanted book held e h =
    ap (λ b. started (record { session = None; book = wanting_at wanted b; heard = false; highest = 0; held = held })) e
    ∙ ap (λ hs. started (record { session = None; book = wanting_at wanted empty; heard = false; highest = 0; held = hs })) h
