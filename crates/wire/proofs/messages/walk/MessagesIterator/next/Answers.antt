use Rattle.std.proofs.Common.{◌≡◌, suc, refl, arith}
use Rattle.wire.proofs.Steps.{step_there, step_walked, step_fills}
use Rattle.wire.proofs.messages.walk.MessagesIterator.next.Goals as goal

pub returns-in_err-bytes-clause-steps : goal.returns-in_err-bytes-clause-steps
returns-in_err-bytes-clause-steps c = step_there _ _ c.in_ok-left.ensures.0 c.in_err-bytes.ensures.parts c.args.self.now.filled

pub invariant_of-self : goal.invariant_of-self
invariant_of-self c =
    let s = c.args.self.now in
    let left = c.in_ok-left.ensures in
    let more : s.left ≡ suc c.in_ok-left.left = omega arith in
    record { filled = step_fills s.left _ s.bytes.now _ _ more c.in_ok-bytes.ensures.parts s.filled; from_one = omega arith; within = omega arith }

pub returns-clause-steps : goal.returns-clause-steps
returns-clause-steps c =
    let s = c.args.self.now in
    let left = c.in_ok-left.ensures in
    let more : s.left ≡ suc c.in_ok-left.left = omega arith in
    (step_walked s.left _ s.bytes.now _ _ more s.number (omega arith) c.in_ok-bytes.ensures.parts, refl, refl)
