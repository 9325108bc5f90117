use Rattle.std.proofs.Common.{Ok, Err, sym, refl, ap, ◌∙◌}
use Rattle.std.proofs.lemmas.Result.{err_from_is_err_and}
use Rattle.codes.specs.declared.refusal.Refusal.TheVariants as refusal
use Rattle.following.specs.Calls.{packet, counted}
use Rattle.following.specs.Follower.{moved, no_counts}
use Rattle.running.specs.Runners.{book_in, held_in}
use Rattle.follower.specs.declared.call.Answer.TheVariants as answer
use Rattle.follower.specs.Model.{model, slots_of}
use Rattle.follower.proofs.Reaching.{reach}
use Rattle.follower.proofs.Outcomes.{came_accepted, came_refused, no_packet, is_started}
use Rattle.follower.proofs.Heard.{none_counted, read_as, heard_refused, heard_other, heard_beat, heard_data, beat_bounded, data_bounded}
use Rattle.follower.proofs.follower.Follower.packet.Goals as goal

pub returns-in_err-started : goal.returns-in_err-started
returns-in_err-started c =
    let f = c.args.self.now in
    let p = err_from_is_err_and c.from_residual.result c.from_residual.ensures.1 in
    came_refused f _ _ c.in_err-started.field-0.0 _
    (no_packet (slots_of f) (book_in f.runner) (held_in f.runner) f.state _ c.in_err-started.ensures c.args.bytes.now) refl (p.1 ∙ ap Err p.2) refl

pub returns-in_err-next : goal.returns-in_err-next
returns-in_err-next c =
    let f = c.args.self.now in
    let p = err_from_is_err_and c.from_residual-in_err-next.result c.from_residual-in_err-next.ensures.1 in
    came_refused f _ _ c.in_err-next.field-0.0 _
    (heard_refused f _ (is_started _ _ c.in_ok-started.ensures) c.args.bytes.now c.in_err-next.field-0.0 c.in_err-next.ensures) refl (p.1 ∙ ap Err p.2) refl

pub returns-then-not-agrees : goal.returns-then-not-agrees
returns-then-not-agrees c =
    let f = c.args.self.now in
    let b = c.in-Heartbeat in
    came_refused f _ _ refusal.OtherSession _
    (heard_other f _ (is_started _ _ c.in_ok-started.ensures) _ b.next b.session (read_as _ _ _ c.in_ok-next.ensures b.is) (sym c.if-not-agrees.ensures)) refl refl refl

pub settled-self-requires : goal.settled-self-requires
settled-self-requires c =
    let b = c.in-Heartbeat in
    beat_bounded c.args.self.now _ (is_started _ _ c.in_ok-started.ensures) _ b.next b.session (read_as _ _ _ c.in_ok-next.ensures b.is)
    _ _ _ c.saturating_sub.ensures c.highest.ensures c.max-highest.ensures

pub invariant_of-self : goal.invariant_of-self
invariant_of-self c =
    let f = c.args.self.now in
    let b = c.in-Heartbeat in
    let o = heard_beat f _ (is_started _ _ c.in_ok-started.ensures) _ b.next b.session (read_as _ _ _ c.in_ok-next.ensures b.is)
    _ _ _ c.saturating_sub.ensures c.highest.ensures c.max-highest.ensures (sym c.if-not-agrees.ensures) in
    record { reached = reach _ _ _ _ (packet c.args.bytes.now) refl (c.settled-self.ensures f.runner ∙ ap (λ x. moved x (model f)) (sym o)) f.reached }

pub returns-else-not-agrees : goal.returns-else-not-agrees
returns-else-not-agrees c =
    let f = c.args.self.now in
    let b = c.in-Heartbeat in
    let o = heard_beat f _ (is_started _ _ c.in_ok-started.ensures) _ b.next b.session (read_as _ _ _ c.in_ok-next.ensures b.is)
    _ _ _ c.saturating_sub.ensures c.highest.ensures c.max-highest.ensures (sym c.if-not-agrees.ensures) in
    let d = c.default.ensures in
    came_accepted f _ _ _ (counted no_counts) _ o (c.settled-self.ensures f.runner) (ap (λ x. Ok (answer.Counted x)) (none_counted c.default.result d.0 d.1.0 d.1.1.0 d.1.1.1)) refl

pub settled-self-requires-in-Data : goal.settled-self-requires-in-Data
settled-self-requires-in-Data c =
    let l = c.last_number.ensures in
    let g = c.treat_all-reached in
    data_bounded c.args.self.now _ (is_started _ _ c.in_ok-started.ensures) _ _ _ (read_as _ _ _ c.in_ok-next.ensures c.in-Data.is)
    _ _ _ l.last c.highest-in-Data.ensures c.max-highest-in-Data.ensures g.new.self g.result.1 g.ensures.led.place l.within

pub invariant_of-self-in-Data : goal.invariant_of-self-in-Data
invariant_of-self-in-Data c =
    let f = c.args.self.now in
    let g = c.treat_all-reached in
    let o = heard_data f _ (is_started _ _ c.in_ok-started.ensures) _ _ _ (read_as _ _ _ c.in_ok-next.ensures c.in-Data.is)
    _ _ _ c.last_number.ensures.last c.highest-in-Data.ensures c.max-highest-in-Data.ensures g.new.self g.result.1 g.ensures.led.place g.result.0 g.ensures.counts in
    record {
      reached =
          reach _ _ _ _ (packet c.args.bytes.now) g.ensures.led.room
          (c.settled-self-in-Data.ensures g.new.self ∙ ap (λ x. moved x (model f)) (sym o)) f.reached;
    }

pub returns-in-Data : goal.returns-in-Data
returns-in-Data c =
    let f = c.args.self.now in
    let g = c.treat_all-reached in
    let o = heard_data f _ (is_started _ _ c.in_ok-started.ensures) _ _ _ (read_as _ _ _ c.in_ok-next.ensures c.in-Data.is)
    _ _ _ c.last_number.ensures.last c.highest-in-Data.ensures c.max-highest-in-Data.ensures g.new.self g.result.1 g.ensures.led.place g.result.0 g.ensures.counts in
    came_accepted f _ _ _ (counted g.result.0) _ o (c.settled-self-in-Data.ensures g.new.self) refl g.ensures.led.room
