use Rattle.std.proofs.Common.{◌≡◌, ◌≤◌, length}
use Rattle.session.specs.Sessions.{rest_of, told}
use Rattle.session.proofs.messages.SessionMessages.next_told.Given as goal

abbrev pub invariant-loop-message : goal.invariant-loop-message
invariant-loop-message l =
    (told (rest_of l.self) ≡ told (rest_of l.initial.self)) × (length l.self.bytes.now ≤ length l.initial.self.bytes.now)

abbrev pub decreases-loop-message : goal.decreases-loop-message
decreases-loop-message l = length l.self.bytes.now
