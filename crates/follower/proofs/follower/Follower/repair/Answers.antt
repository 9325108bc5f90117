use Rattle.std.proofs.Common.{Err, sym, refl, ap, ◌∙◌}
use Rattle.std.proofs.lemmas.Result.{err_from_is_err_and}
use Rattle.codes.specs.declared.refusal.Refusal.TheVariants as refusal
use Rattle.following.specs.Calls.{repair, repaired}
use Rattle.following.specs.Follower.{moved}
use Rattle.running.specs.Runners.{book_in, held_in}
use Rattle.follower.specs.Model.{model, slots_of}
use Rattle.follower.proofs.Mended.{other_session, waits, mends, mended_bounded}
use Rattle.follower.proofs.Outcomes.{came_accepted, came_refused, no_repair, is_started}
use Rattle.follower.proofs.Reaching.{reach}
use Rattle.follower.proofs.follower.Follower.repair.Goals as goal

pub returns-in_err-started-clause-outcome : goal.returns-in_err-started-clause-outcome
returns-in_err-started-clause-outcome g c =
    let f = c.args.self.now in
    let p = err_from_is_err_and c.from_residual.result c.from_residual.ensures.1 in
    came_refused f _ _ c.in_err-started.field-0.0 _
    (no_repair (slots_of f) (book_in f.runner) (held_in f.runner) f.state _ c.in_err-started.ensures (g.S.Source.meaning c.args.source.now) c.args.budget)
    refl (p.1 ∙ ap Err p.2) refl

pub returns-then-not-agrees-clause-outcome : goal.returns-then-not-agrees-clause-outcome
returns-then-not-agrees-clause-outcome g c =
    let f = c.args.self.now in
    came_refused f _ _ refusal.OtherSession _
    (other_session (slots_of f) f.runner f.state _ (g.S.Source.meaning c.args.source.now) c.args.budget
    (is_started _ _ c.in_ok-started.ensures) _ c.session-session.ensures _ c.agrees.ensures c.if-not-agrees.true)
    refl refl refl

pub returns-in-Waiting-clause-outcome : goal.returns-in-Waiting-clause-outcome
returns-in-Waiting-clause-outcome g c =
    let f = c.args.self.now in
    came_refused f _ _ refusal.Waiting _
    (waits (slots_of f) f.runner f.state _ (g.S.Source.meaning c.args.source.now) c.args.budget
    (is_started _ _ c.in_ok-started.ensures) _ c.session-session.ensures _ c.agrees.ensures c.if-not-agrees.false
    _ (c.lamp.ensures (book_in f.runner)) c.in-Waiting.is)
    refl refl refl

pub settled-self-requires : goal.settled-self-requires
settled-self-requires g c =
    let f = c.args.self.now in
    mended_bounded (slots_of f) f.runner f.state _ (g.S.Source.meaning c.args.source.now) c.args.budget
    (is_started _ _ c.in_ok-started.ensures) _ c.highest-highest.ensures c.mend-repair.new.self c.mend-repair.result c.mend-repair.ensures.mended f.reached

pub invariant_of-self : goal.invariant_of-self
invariant_of-self g c =
    let f = c.args.self.now in
    let o = mends (slots_of f) f.runner f.state _ (g.S.Source.meaning c.args.source.now) c.args.budget
    (is_started _ _ c.in_ok-started.ensures) _ c.session-session.ensures _ c.agrees.ensures c.if-not-agrees.false
    _ (c.lamp.ensures (book_in f.runner)) c.in_default.not-Waiting _ c.highest-highest.ensures c.mend-repair.new.self c.mend-repair.result c.mend-repair.ensures.mended in
    record {
      reached =
          reach _ _ _ _ (repair (g.S.Source.meaning c.args.source.now) c.args.budget) c.mend-repair.ensures.room
          (c.settled-self.ensures c.mend-repair.new.self ∙ ap (λ x. moved x (model f)) (sym o)) f.reached;
    }

pub returns-clause-outcome : goal.returns-clause-outcome
returns-clause-outcome g c =
    let f = c.args.self.now in
    let o = mends (slots_of f) f.runner f.state _ (g.S.Source.meaning c.args.source.now) c.args.budget
    (is_started _ _ c.in_ok-started.ensures) _ c.session-session.ensures _ c.agrees.ensures c.if-not-agrees.false
    _ (c.lamp.ensures (book_in f.runner)) c.in_default.not-Waiting _ c.highest-highest.ensures c.mend-repair.new.self c.mend-repair.result c.mend-repair.ensures.mended in
    came_accepted f _ _ _ (repaired c.mend-repair.result.fetched c.mend-repair.result.ending) _ o
    (c.settled-self.ensures c.mend-repair.new.self) refl c.mend-repair.ensures.room
