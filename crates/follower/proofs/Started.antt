-- A started follower of the code, in the words of the plain one.
use Rattle.std.proofs.Common.{◌≡◌, ℕ, suc, ◌≤◌, true, leb, List, Some, None, Option, ap, ◌∙◌, subst, leb-true, Ok}
use Rattle.std.proofs.lemmas.Bool.{and_parts}
use Rattle.wire.specs.Numbers.{most32}
use Rattle.book.specs.Plain.{Plain}
use Rattle.following.specs.States.{Room, Held, Started}
use Rattle.following.specs.Follower.{place_of}
use Rattle.following.proofs.Shapes.{Shape}
use Rattle.running.specs.Runners.{place_in, book_in, held_in}
use Rattle.running.specs.declared.runner.Runner.{Runner}
use Rattle.running.specs.declared.moves.Wanted.{Wanted as WantedOf}
use Rattle.follower.specs.declared.state.Started.{Started as StartedOf}
use Rattle.follower.specs.declared.state.State.{State as StateOf}
use Rattle.follower.specs.declared.state.State.TheVariants as state
use Rattle.follower.specs.Marks.{marked_at}
use Rattle.follower.specs.Modelled.{modelled, wanting_at, is_heard, highest_of, Reachable}
use Rattle.follower.proofs.Reaching.{in_order, stands}

-- a started follower of the code
abbrev pub started_as : StartedOf → Plain → List Held → Started
started_as x book held =
    record { session = x.session; book = wanting_at x.wanted book; heard = is_heard x.heard; highest = highest_of x.heard; held = held }

-- the highest number heard is one that there can be
pub highest_within : (x : StartedOf) → highest_of x.heard ≤ most32
highest_within x = within x.wanted (highest_of x.heard) x.bounded
  where
    within : (wanted : Option WantedOf) (k : ℕ) → marked_at wanted k ≡ true → k ≤ most32
    within None k q = leb-true k most32 q
    within (Some w) k q = leb-true k most32 (and_parts (leb w.number (suc k)) (leb k most32) q).1

-- a started follower that some history leads to is in order
module _ (room : Room) (runner : Runner) (s : StateOf) (x : StartedOf) (e : s ≡ state.Started x) (r : Reachable room (modelled s (book_in runner) (held_in runner))) where
  pub started_order : Shape (highest_of x.heard) (place_of (wanting_at x.wanted (book_in runner)) (held_in runner))
  started_order =
      in_order room (started_as x (book_in runner) (held_in runner)) (r.0, r.1 ∙ ap (λ y. modelled y (book_in runner) (held_in runner)) e)

  pub started_shape : Shape (highest_of x.heard) (place_in runner (Ok x.wanted))
  started_shape = subst (Shape (highest_of x.heard)) (stands runner x.wanted) started_order
