use Rattle.std.proofs.Common.{sym, refl, ap}
use Rattle.codes.specs.declared.refusal.Refusal.TheVariants as refusal
use Rattle.following.specs.Calls.{stop, done}
use Rattle.following.specs.Follower.{moved}
use Rattle.following.specs.States.{dark}
use Rattle.running.specs.Runners.{book_in, held_in}
use Rattle.follower.specs.Model.{model, slots_of}
use Rattle.follower.proofs.Reaching.{reach}
use Rattle.follower.proofs.Outcomes.{came_accepted, came_refused, stops, stops_not}
use Rattle.follower.proofs.follower.Follower.stop.Goals as goal

pub invariant_of-self : goal.invariant_of-self
invariant_of-self c =
    let f = c.args.self.now in
    record { reached = reach _ _ _ _ stop refl (ap (λ o. moved o (model f)) (sym (stops (slots_of f) (book_in f.runner) (held_in f.runner) f.state c.in_default.not-Dark))) f.reached }

pub returns-in-Dark : goal.returns-in-Dark
returns-in-Dark c =
    let f = c.args.self.now in
    came_refused f _ _ refusal.Dark _ (stops_not (slots_of f) (book_in f.runner) (held_in f.runner) f.state c.in-Dark.is) refl refl refl

pub returns-in_default : goal.returns-in_default
returns-in_default c =
    let f = c.args.self.now in
    came_accepted f _ _ dark done _ (stops (slots_of f) (book_in f.runner) (held_in f.runner) f.state c.in_default.not-Dark) refl refl refl
