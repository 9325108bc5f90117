-- How a repair comes out, by what the code found.
use Rattle.std.proofs.Common.{◌≡◌, ℕ, ◌≤◌, Bool, true, false, cond, Some, sym, refl, ap, ◌∙◌, subst, Ok}
use Rattle.codes.specs.declared.lamp.Lamp.{Lamp}
use Rattle.codes.specs.declared.lamp.Lamp.TheVariants as lamp
use Rattle.codes.specs.declared.refusal.Refusal.TheVariants as refusal
use Rattle.wire.specs.Numbers.{most32}
use Rattle.wire.specs.Names.{Session}
use Rattle.source.specs.Meanings.{Meaning}
use Rattle.following.specs.States.{Room, State, lamp_at}
use Rattle.following.specs.Calls.{repair, repaired, Outcome, refused, accepted}
use Rattle.following.specs.Follower.{
  place_of,
  agrees,
  settled,
  mended,
  on_mended,
  unless_waiting,
  on_repair,
  outcome,
  while_started,
}
use Rattle.following.proofs.Shapes.{Shape, mended_shape}
use Rattle.running.specs.Runners.{place_in, book_in, held_in, mended_in}
use Rattle.running.specs.declared.moves.Repair.{Repair}
use Rattle.running.specs.declared.runner.Runner.{Runner}
use Rattle.follower.specs.declared.state.Started.{Started as StartedOf}
use Rattle.follower.specs.declared.state.State.{State as StateOf}
use Rattle.follower.specs.declared.state.State.TheVariants as state
use Rattle.follower.specs.Modelled.{modelled, wanting_at, is_heard, highest_of, Reachable}
use Rattle.follower.specs.Steps.{bounded_by}
use Rattle.follower.proofs.Reaching.{by_history, stands, bounded}
use Rattle.follower.proofs.Started.{started_as, highest_within, started_shape}

unless_not :
    (room : Room) (l : Lamp) (o : Outcome) → (l ≡ lamp.Waiting → ⊥) → unless_waiting room l o ≡ o
unless_not room lamp.Waiting o n = absurd (n refl)
unless_not room shown o n = refl

module _ (room : Room) (runner : Runner) (s : StateOf) (x : StartedOf) (m : Meaning) (budget : ℕ) (e : s ≡ state.Started x) where
  abbrev Before : State
  Before = modelled s (book_in runner) (held_in runner)

  repairs : outcome room Before (repair m budget) ≡ on_repair room (started_as x (book_in runner) (held_in runner)) m budget
  unfolding outcome while_started
  repairs = ap (λ y. outcome room (modelled y (book_in runner) (held_in runner)) (repair m budget)) e

  -- what is mended where the session agrees
  abbrev Tried : Outcome
  Tried =
      on_mended room m.session (highest_of x.heard)
      (mended room m.held (highest_of x.heard) budget (place_of (wanting_at x.wanted (book_in runner)) (held_in runner)))

  agreed :
      (t : Bool) → agrees x.session m.session ≡ t →
      outcome room Before (repair m budget)
      ≡ cond t (unless_waiting room (lamp_at (wanting_at x.wanted (book_in runner)) (is_heard x.heard) (highest_of x.heard)) Tried) (refused refusal.OtherSession)
  agreed t a =
      repairs
      ∙ ap (λ u. cond u (unless_waiting room (lamp_at (wanting_at x.wanted (book_in runner)) (is_heard x.heard) (highest_of x.heard)) Tried) (refused refusal.OtherSession)) a

  -- the wanted number stays within its bound
  pub mended_bounded :
      (k : ℕ) (top : k ≡ highest_of x.heard) (after : Runner) (done : Repair) →
      mended_in after done ≡ mended room m.held k budget (place_in runner (Ok x.wanted)) →
      ∥ Reachable room Before ∥₁ → bounded_by done.reached k ≡ true
  mended_bounded k top after done ran reached =
      by_history room Before (bounded_by done.reached k) reached
      (λ r. bounded after done.reached k (subst (λ i. i ≤ most32) (sym top) (highest_within x))
      (subst (λ z. Shape k z.place) (sym ran)
      (mended_shape room m.held k budget (place_in runner (Ok x.wanted))
      (subst (λ i. Shape i (place_in runner (Ok x.wanted))) (sym top) (started_shape room runner s x e r)))))

  module _ (session : Session) (same : session ≡ m.session) (t : Bool) (a : t ≡ agrees x.session session) where
    pub other_session : t ≡ false → outcome room Before (repair m budget) ≡ refused refusal.OtherSession
    other_session q = agreed false (ap (agrees x.session) (sym same) ∙ sym a ∙ q)

    module _ (q : t ≡ true) (l : Lamp) (shown : l ≡ lamp_at (wanting_at x.wanted (book_in runner)) (is_heard x.heard) (highest_of x.heard)) where
      goes_on :
          outcome room Before (repair m budget)
          ≡ unless_waiting room (lamp_at (wanting_at x.wanted (book_in runner)) (is_heard x.heard) (highest_of x.heard)) Tried
      goes_on = agreed true (ap (agrees x.session) (sym same) ∙ sym a ∙ q)

      pub waits : l ≡ lamp.Waiting → outcome room Before (repair m budget) ≡ refused refusal.Waiting
      waits w = goes_on ∙ ap (λ y. unless_waiting room y Tried) (sym shown ∙ w)

      -- the code's repair
      pub mends :
          (l ≡ lamp.Waiting → ⊥) → (k : ℕ) (top : k ≡ highest_of x.heard) (after : Runner) (done : Repair) →
          mended_in after done ≡ mended room m.held k budget (place_in runner (Ok x.wanted)) →
          outcome room Before (repair m budget) ≡ accepted (settled (Some session) k (place_in after done.reached)) (repaired done.fetched done.ending)
      mends n k top after done ran =
          goes_on
          ∙ unless_not room (lamp_at (wanting_at x.wanted (book_in runner)) (is_heard x.heard) (highest_of x.heard)) Tried (λ w. n (shown ∙ w))
          ∙ ap (λ i. on_mended room m.session i (mended room m.held i budget (place_of (wanting_at x.wanted (book_in runner)) (held_in runner)))) (sym top)
          ∙ ap (λ p. on_mended room m.session k (mended room m.held k budget p)) (stands runner x.wanted)
          ∙ ap (on_mended room m.session k) (sym ran)
          ∙ ap (λ y. on_mended room y k (mended_in after done)) (sym same)
