use Rattle.std.proofs.Common.{sym, refl, ap, ◌∙◌}
use Rattle.codes.specs.declared.refusal.Refusal.TheVariants as refusal
use Rattle.book.specs.Plain.{empty}
use Rattle.following.specs.Calls.{done}
use Rattle.following.specs.Follower.{moved}
use Rattle.following.specs.States.{begun}
use Rattle.running.specs.Runners.{book_in, held_in}
use Rattle.follower.specs.Model.{model, slots_of}
use Rattle.follower.specs.Modelled.{wanting_at}
use Rattle.follower.specs.Steps.{start_of}
use Rattle.follower.proofs.Reaching.{reach}
use Rattle.follower.proofs.Outcomes.{came_accepted, came_refused, starts, starts_not, begun_at}
use Rattle.follower.proofs.follower.Follower.start.Goals as goal

pub invariant_of-self-in-Dark : goal.invariant_of-self-in-Dark
invariant_of-self-in-Dark c =
    let f = c.args.self.now in
    let g = c.clear.ensures in
    let wanted = c.args.wanted in
    record {
      reached =
          reach _ _ _ _ (start_of wanted) g.room
          (begun_at wanted _ _ g.book g.held ∙ ap (λ o. moved o (model f)) (sym (starts (slots_of f) (book_in f.runner) (held_in f.runner) f.state wanted c.in-Dark.is c.requires))) f.reached;
    }

pub returns-in-Dark : goal.returns-in-Dark
returns-in-Dark c =
    let f = c.args.self.now in
    let g = c.clear.ensures in
    let wanted = c.args.wanted in
    came_accepted f _ _ (begun (wanting_at wanted empty)) done _ (starts (slots_of f) (book_in f.runner) (held_in f.runner) f.state wanted c.in-Dark.is c.requires) (begun_at wanted _ _ g.book g.held) refl g.room

pub returns-in_default : goal.returns-in_default
returns-in_default c =
    let f = c.args.self.now in
    came_refused f _ _ refusal.NotDark _ (starts_not (slots_of f) (book_in f.runner) (held_in f.runner) f.state c.args.wanted c.in_default.not-Dark) refl refl refl
