-- One call more in a history, and what holds of every state that a history leads to.
use Rattle.std.proofs.Common.{◌≡◌, ℕ, suc, ◌≤◌, Bool, true, leb, ◌∷◌, Some, None, Ok, Err, Option, sym, refl, ap, ◌∙◌, subst}
use mathlib.Core.Bool.{Bool-set}
use mathlib.Core.Logic.{∥∥₁_map, ∥∥₁_elim}
use Rattle.std.proofs.lemmas.Bool.{and_from, le-leb}
use Rattle.wire.specs.Numbers.{most32}
use Rattle.following.specs.States.{Room, Started, State, started}
use Rattle.following.specs.Calls.{Call}
use Rattle.following.specs.Follower.{place_of, outcome, moved}
use Rattle.following.specs.Days.{after, since, highest_in}
use Rattle.following.proofs.Shapes.{Shape}
use Rattle.following.proofs.Standing.{Tidy, tidy}
use Rattle.running.specs.Runners.{Reached, place_in, book_in, held_in}
use Rattle.running.specs.declared.moves.Wanted.{Wanted as WantedOf}
use Rattle.running.specs.declared.runner.Runner.{Runner}
use Rattle.follower.specs.Modelled.{Reachable, wanting_at}
use Rattle.follower.specs.Steps.{bounded_by}

-- a call leads on
pub reach :
    (room room' : Room) (s t : State) (c : Call) → room' ≡ room → t ≡ moved (outcome room s c) s →
    ∥ Reachable room s ∥₁ → ∥ Reachable room' t ∥₁
unfolding after
reach room room' s t c e q k =
    ∥∥₁_map k (λ r. (c ∷ r.0, ap (λ x. after x (c ∷ r.0)) e ∙ ap (λ x. moved (outcome room x c) x) r.1 ∙ sym q))

-- a test that holds after every history
pub by_history : (room : Room) (s : State) (b : Bool) → ∥ Reachable room s ∥₁ → (Reachable room s → b ≡ true) → b ≡ true
by_history room s b k f = ∥∥₁_elim k (Bool-set b true) f

-- a started follower is in order
pub in_order : (room : Room) (st : Started) → Reachable room (started st) → Shape st.highest (place_of st.book st.held)
in_order room st r = (subst (Tidy (highest_in room (since room r.0))) r.1 (tidy room r.0)).1

-- where a started follower stands
pub stands : (runner : Runner) (wanted : Option WantedOf) → place_of (wanting_at wanted (book_in runner)) (held_in runner) ≡ place_in runner (Ok wanted)
stands runner None = refl
stands runner (Some w) = refl

-- a place in order keeps the wanted number within its bound
pub bounded : (runner : Runner) (x : Reached) (k : ℕ) → k ≤ most32 → Shape k (place_in runner x) → bounded_by x k ≡ true
bounded runner (Ok None) k m s = le-leb k most32 m
bounded runner (Ok (Some w)) k m s = and_from (leb w.number (suc k)) (leb k most32) (le-leb w.number (suc k) s.0) (le-leb k most32 m)
bounded runner (Err stop) k m s = refl
