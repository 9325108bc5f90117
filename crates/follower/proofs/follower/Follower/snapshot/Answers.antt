use Rattle.std.proofs.Common.{◌≤◌, Err, sym, refl, ap, ◌∙◌, arith}
use Rattle.std.proofs.lemmas.Result.{err_from_is_err_and}
use Rattle.wire.specs.Numbers.{most32}
use Rattle.codes.specs.declared.refusal.Refusal.TheVariants as refusal
use Rattle.following.specs.Calls.{snapshot, snapshot_taken}
use Rattle.following.specs.Follower.{moved}
use Rattle.running.specs.Runners.{book_in, held_in}
use Rattle.follower.specs.Model.{model, slots_of}
use Rattle.follower.proofs.Outcomes.{came_accepted, came_refused, no_snapshot, is_started}
use Rattle.follower.proofs.Reaching.{reach}
use Rattle.follower.proofs.Snapshots.{has_book, not_opened, unshown, unloaded, next_within, takes, taken_bounded}
use Rattle.follower.proofs.follower.Follower.snapshot.Goals as goal

pub returns-in_err-started : goal.returns-in_err-started
returns-in_err-started c =
    let f = c.args.self.now in
    let p = err_from_is_err_and c.from_residual.result c.from_residual.ensures.1 in
    came_refused f _ _ c.in_err-started.field-0.0 _
    (no_snapshot (slots_of f) (book_in f.runner) (held_in f.runner) f.state _ c.in_err-started.ensures c.args.bytes.now) refl (p.1 ∙ ap Err p.2) refl

pub returns-then-is_some : goal.returns-then-is_some
returns-then-is_some c =
    let f = c.args.self.now in
    came_refused f _ _ refusal.HasBook _ (has_book (slots_of f) f.runner f.state _ c.args.bytes.now (is_started _ _ c.in_ok-started.ensures) _ c.is_some.ensures c.if-is_some.true) refl refl refl

pub returns-in_err-opened : goal.returns-in_err-opened
returns-in_err-opened c =
    let f = c.args.self.now in
    let p = err_from_is_err_and c.from_residual-in_err-opened.result c.from_residual-in_err-opened.ensures.1 in
    came_refused f _ _ c.in_err-opened.field-0.0 _
    (not_opened (slots_of f) f.runner f.state _ c.args.bytes.now (is_started _ _ c.in_ok-started.ensures) (sym c.is_some.ensures ∙ c.if-is_some.false) c.in_err-opened.field-0.0 c.in_err-opened.ensures)
    refl (p.1 ∙ ap Err p.2) refl

pub invariant_of-self : goal.invariant_of-self
invariant_of-self c =
    let f = c.args.self.now in
    let none = sym c.is_some.ensures ∙ c.if-is_some.false in
    let is = c.in_ok-opened.ensures in
    let l = c.in_err-next.ensures in
    let o = unloaded (slots_of f) f.runner f.state _ c.args.bytes.now (is_started _ _ c.in_ok-started.ensures) none c.in_ok-opened.opened is.0 is.1 c.new.result c.new.ensures c.load.new.self _ l.loaded in
    record {
      reached =
          reach _ _ _ _ (snapshot c.args.bytes.now) l.room
          (unshown (slots_of f) f.runner f.state _ c.args.bytes.now (is_started _ _ c.in_ok-started.ensures) none c.load.new.self l.held ∙ ap (λ x. moved x (model f)) (sym o)) f.reached;
    }

pub invariant_of-complete : goal.invariant_of-complete
invariant_of-complete c =
    let f = c.args.self.now in
    let is = c.in_ok-opened.ensures in
    let n : c.in_ok-next.next ≤ most32 =
    next_within (slots_of f) f.runner f.state _ c.args.bytes.now (is_started _ _ c.in_ok-started.ensures) (sym c.is_some.ensures ∙ c.if-is_some.false)
    c.in_ok-opened.opened is.0 is.1 c.new.result c.new.ensures c.load.new.self c.in_ok-next.next c.in_ok-next.ensures.loaded in
    record { within = omega arith }

pub settled-self-requires : goal.settled-self-requires
settled-self-requires c =
    let f = c.args.self.now in
    let is = c.in_ok-opened.ensures in
    let l = c.in_ok-next.ensures in
    taken_bounded (slots_of f) f.runner f.state _ c.args.bytes.now (is_started _ _ c.in_ok-started.ensures) (sym c.is_some.ensures ∙ c.if-is_some.false)
    c.in_ok-opened.opened is.0 is.1 c.new.result c.new.ensures c.load.new.self c.in_ok-next.next l.loaded l.room l.held c.complete-reached.new.self _ c.complete-reached.ensures.place
    _ _ _ c.saturating_sub.ensures c.highest.ensures c.max-highest.ensures f.reached

pub invariant_of-self-2 : goal.invariant_of-self-2
invariant_of-self-2 c =
    let f = c.args.self.now in
    let is = c.in_ok-opened.ensures in
    let l = c.in_ok-next.ensures in
    let g = c.complete-reached.ensures in
    let o = takes (slots_of f) f.runner f.state _ c.args.bytes.now (is_started _ _ c.in_ok-started.ensures) (sym c.is_some.ensures ∙ c.if-is_some.false)
    c.in_ok-opened.opened is.0 is.1 c.new.result c.new.ensures c.load.new.self c.in_ok-next.next l.loaded l.room l.held c.complete-reached.new.self _ g.place
    _ _ _ c.saturating_sub.ensures c.highest.ensures c.max-highest.ensures in
    record {
      reached =
          reach _ _ _ _ (snapshot c.args.bytes.now) (g.room ∙ l.room)
          (c.settled-self.ensures c.complete-reached.new.self ∙ ap (λ x. moved x (model f)) (sym o)) f.reached;
    }

pub returns-in_err-next : goal.returns-in_err-next
returns-in_err-next c =
    let f = c.args.self.now in
    let p = err_from_is_err_and c.from_residual-in_err-next.result c.from_residual-in_err-next.ensures.1 in
    let none = sym c.is_some.ensures ∙ c.if-is_some.false in
    let is = c.in_ok-opened.ensures in
    let l = c.in_err-next.ensures in
    came_refused f _ _ c.in_err-next.field-0.0 _
    (unloaded (slots_of f) f.runner f.state _ c.args.bytes.now (is_started _ _ c.in_ok-started.ensures) none c.in_ok-opened.opened is.0 is.1 c.new.result c.new.ensures c.load.new.self _ l.loaded)
    (unshown (slots_of f) f.runner f.state _ c.args.bytes.now (is_started _ _ c.in_ok-started.ensures) none c.load.new.self l.held)
    (p.1 ∙ ap Err p.2) l.room

pub returns : goal.returns
returns c =
    let f = c.args.self.now in
    let is = c.in_ok-opened.ensures in
    let l = c.in_ok-next.ensures in
    let g = c.complete-reached.ensures in
    let o = takes (slots_of f) f.runner f.state _ c.args.bytes.now (is_started _ _ c.in_ok-started.ensures) (sym c.is_some.ensures ∙ c.if-is_some.false)
    c.in_ok-opened.opened is.0 is.1 c.new.result c.new.ensures c.load.new.self c.in_ok-next.next l.loaded l.room l.held c.complete-reached.new.self _ g.place
    _ _ _ c.saturating_sub.ensures c.highest.ensures c.max-highest.ensures in
    came_accepted f _ _ _ (snapshot_taken c.in_ok-next.next) _ o (c.settled-self.ensures c.complete-reached.new.self) refl (g.room ∙ l.room)
