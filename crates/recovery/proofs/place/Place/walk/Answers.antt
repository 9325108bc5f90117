use Rattle.std.proofs.Common.{◌≡◌, ◌<◌, ◌+◌, length, ap, ◌∙◌, sym, arith}
use Rattle.std.specs.Option.{option_map}
use Rattle.session.specs.Carried.{still_carried}
use Rattle.recovery.specs.Places.{message_of}
use Rattle.recovery.proofs.Walks.{walk_none, walk_some, walk_onward}
use Rattle.source.proofs.Numbered.{numbered_below}
use Rattle.recovery.proofs.place.Place.walk.Goals as goal

pub returns-in_err-others-clause-value : goal.returns-in_err-others-clause-value
returns-in_err-others-clause-value c =
    let p = c.args.self in
    let low = c.in_err-others.ensures in
    let below : c.args.number < p.number = omega arith in
    ap (option_map message_of) c.from_residual.ensures ∙ sym (numbered_below p.number c.args.number (still_carried p.messages) below)

pub returns-in_err-message-clause-value : goal.returns-in_err-message-clause-value
returns-in_err-message-clause-value c =
    let p = c.args.self in
    let ran = c.in_err-message.ensures.ran in
    ap (option_map message_of) c.from_residual-in_err-message.ensures ∙ sym (walk_none p.messages c.nth.new.self ran.0 p.number c.args.number ran.1 (omega (arith, c.in_ok-others.ensures)))

pub returns-clause-value : goal.returns-clause-value
returns-clause-value c =
    let p = c.args.self in
    let ran = c.in_ok-message.ensures.ran in
    sym (walk_some p.messages c.nth.new.self ran.0 p.number c.args.number c.in_ok-message.message ran.1 (omega (arith, c.in_ok-others.ensures)))

pub returns-clause-agrees : goal.returns-clause-agrees
returns-clause-agrees c =
    let p = c.args.self in
    let ran = c.in_ok-message.ensures.ran in
    let at : c.args.number ≡ p.number + length ran.0 = omega (arith, c.in_ok-others.ensures) in
    (omega arith, λ n past. walk_onward p.messages c.nth.new.self ran.0 p.number c.args.number n c.in_ok-message.message ran.1 at (omega arith))
