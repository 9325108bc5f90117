-- How a snapshot comes out, by what the code found.
use Rattle.std.proofs.Common.{◌≡◌, ℕ, pred, ◌-◌, ◌≤◌, max, Bool, true, false, cond, List, is_some, Some, None, Ok, Err, Option, Result, sym, refl, ap, ◌∙◌, subst, sub-one, arith}
use Rattle.codes.specs.declared.refusal.Refusal.{Refusal}
use Rattle.codes.specs.declared.refusal.Refusal.TheVariants as refusal
use Rattle.wire.specs.Answers.{through}
use Rattle.wire.specs.Numbers.{most32}
use Rattle.wire.specs.Names.{Session}
use Rattle.session.specs.Sessions.{session_messages, opening, rest_of}
use Rattle.session.specs.Sessions as session
use Rattle.session.specs.Carried.{carried, still_carried}
use Rattle.session.specs.declared.carried.Carried.{Carried}
use Rattle.session.specs.declared.messages.Opened.{Opened}
use Rattle.book.specs.Plain.{Plain, empty}
use Rattle.book.specs.Runs.{run_there}
use Rattle.following.specs.States.{Room, State, started, held_from}
use Rattle.following.specs.Calls.{snapshot, snapshot_taken, refused, accepted}
use Rattle.following.specs.Follower.{
  agrees,
  settled,
  of_mode,
  completed,
  opened,
  snapshot_of,
  on_snapshot,
  run_held,
  outcome,
  while_started,
}
use Rattle.following.proofs.Shapes.{Shape}
use Rattle.following.proofs.Standing.{snapshot_shape}
use Rattle.following.proofs.Readings.{snapshot_next}
use Rattle.running.specs.Runners.{Reached, room_of, place_in, book_in, held_in, snapshot_with}
use Rattle.running.specs.declared.runner.Runner.{Runner}
use Rattle.running.specs.declared.moves.Wanted.{Wanted as WantedOf}
use Rattle.follower.specs.declared.state.Started.{Started as StartedOf}
use Rattle.follower.specs.declared.state.State.{State as StateOf}
use Rattle.follower.specs.declared.state.State.TheVariants as state
use Rattle.follower.specs.Modelled.{modelled, wanting_at, is_heard, highest_of, Reachable}
use Rattle.follower.specs.Steps.{bounded_by}
use Rattle.follower.proofs.Reaching.{by_history, bounded}
use Rattle.follower.proofs.Started.{started_as, highest_within, started_order}

wants : (wanted : Option WantedOf) (book : Plain) → is_some (wanting_at wanted book) ≡ is_some wanted
wants None book = refl
wants (Some w) book = refl

-- without a book the book's rows do not show
unread : (wanted : Option WantedOf) (book book' : Plain) → is_some wanted ≡ false → wanting_at wanted book ≡ wanting_at wanted book'
unread None book book' n = refl
unread (Some w) book book' n = absurd cc

module _ (room : Room) (runner : Runner) (s : StateOf) (x : StartedOf) (bytes : List ℕ) (e : s ≡ state.Started x) where
  abbrev Before : State
  Before = modelled s (book_in runner) (held_in runner)

  snapshots :
      (t : Bool) → is_some x.wanted ≡ t →
      outcome room Before (snapshot bytes)
      ≡ cond t (refused refusal.HasBook) (on_snapshot room (started_as x (book_in runner) (held_in runner)) (snapshot_of room x.session bytes))
  unfolding outcome while_started
  snapshots t q =
      ap (λ y. outcome room (modelled y (book_in runner) (held_in runner)) (snapshot bytes)) e
      ∙ ap (λ u. cond u (refused refusal.HasBook) (on_snapshot room (started_as x (book_in runner) (held_in runner)) (snapshot_of room x.session bytes)))
      (wants x.wanted (book_in runner) ∙ q)

  pub has_book : (t : Bool) → t ≡ is_some x.wanted → t ≡ true → outcome room Before (snapshot bytes) ≡ refused refusal.HasBook
  has_book t q y = snapshots true (sym q ∙ y)

  module _ (none : is_some x.wanted ≡ false) where
    -- the bytes do not open
    pub not_opened :
        (why : Refusal) → ((room : Room) → opened room x.session (of_mode (opening (session_messages bytes))) ≡ Err why) →
        outcome room Before (snapshot bytes) ≡ refused why
    unfolding snapshot_of
    not_opened why q = snapshots false none ∙ ap (on_snapshot room (started_as x (book_in runner) (held_in runner))) (q room)

    -- a loaded book does not show
    pub unshown : (after : Runner) → held_in after ≡ held_in runner → modelled s (book_in after) (held_in after) ≡ Before
    unshown after h =
        ap (λ y. modelled y (book_in after) (held_in after)) e
        ∙ ap (λ hs. modelled (state.Started x) (book_in after) hs) h
        ∙ ap (λ b. started (record { session = x.session; book = b; heard = is_heard x.heard; highest = highest_of x.heard; held = held_in runner }))
        (unread x.wanted (book_in after) (book_in runner) none)
        ∙ ap (λ y. modelled y (book_in runner) (held_in runner)) (sym e)

    module _ (o : Opened) (opens : of_mode (opening (session_messages bytes)) ≡ Some (session.opened o)) (same : agrees x.session o.session ≡ true)
        (messages : Carried) (left : still_carried messages ≡ carried (rest_of o.messages)) (after : Runner) where
      abbrev Loads : Result ℕ Refusal → Type 0
      Loads r =
          (session : Session) →
          through (snapshot_with session (book_in after)) r ≡ completed session (run_there room.for_book (still_carried messages) empty)

      loads : (r : Result ℕ Refusal) → Loads r → snapshot_of room x.session bytes ≡ through (snapshot_with o.session (book_in after)) r
      unfolding snapshot_of
      loads r l =
          ap (opened room x.session) opens
          ∙ ap (λ t. cond t (completed o.session (run_there room.for_book (carried (rest_of o.messages)) empty)) (Err refusal.OtherSession)) same
          ∙ ap (λ ms. completed o.session (run_there room.for_book ms empty)) (sym left)
          ∙ sym (l o.session)

      -- a cause stops it, or it is cut
      pub unloaded : (why : Refusal) → Loads (Err why) → outcome room Before (snapshot bytes) ≡ refused why
      unloaded why l = snapshots false none ∙ ap (on_snapshot room (started_as x (book_in runner) (held_in runner))) (loads (Err why) l)

      module _ (next : ℕ) (l : Loads (Ok next)) where
        pub next_within : next ≤ most32
        next_within = (snapshot_next room (snapshot_with o.session (book_in after) next) x.session bytes (loads (Ok next) l)).1

        -- the code's completed snapshot
        module _ (stay : room_of after ≡ room) (h : held_in after ≡ held_in runner) (last : Runner) (to : Reached)
            (ran : place_in last to ≡ run_held (room_of after) (book_in after) next (held_from next (held_in after)))
            (less high k : ℕ) (before : less ≡ next - 1) (tops : high ≡ highest_of x.heard) (most : k ≡ max high less) where
          top : k ≡ max (highest_of x.heard) (pred next)
          top = most ∙ ap (λ i. max i less) tops ∙ ap (max (highest_of x.heard)) (before ∙ sub-one next)

          led : run_held room (book_in after) next (held_from next (held_in runner)) ≡ place_in last to
          led =
              ap (λ hs. run_held room (book_in after) next (held_from next hs)) (sym h)
              ∙ ap (λ y. run_held y (book_in after) next (held_from next (held_in after))) (sym stay)
              ∙ sym ran

          pub takes : outcome room Before (snapshot bytes) ≡ accepted (settled (Some o.session) k (place_in last to)) (snapshot_taken next)
          takes =
              snapshots false none
              ∙ ap (on_snapshot room (started_as x (book_in runner) (held_in runner))) (loads (Ok next) l)
              ∙ ap (λ p. accepted (settled (Some o.session) (max (highest_of x.heard) (pred next)) p) (snapshot_taken next)) led
              ∙ ap (λ i. accepted (settled (Some o.session) i (place_in last to)) (snapshot_taken next)) (sym top)

          -- the wanted number stays within its bound
          pub taken_bounded : ∥ Reachable room Before ∥₁ → bounded_by to k ≡ true
          taken_bounded reached =
              by_history room Before (bounded_by to k) reached
              (λ r.
              let m = highest_within x in
              let n = next_within in
              bounded last to k (omega arith)
              (subst (λ i. Shape i (place_in last to)) (sym top)
              (subst (Shape (max (highest_of x.heard) (pred next))) led
              (snapshot_shape room (started_as x (book_in runner) (held_in runner)) (snapshot_with o.session (book_in after) next)
              (started_order room runner s x e r)))))
