use Rattle.std.proofs.Common.{◌-◌, ◌≤◌}
use Rattle.session.proofs.Digits.{Writing}
use Rattle.session.proofs.field.write_number.Given as goal

abbrev pub invariant-loop-at : goal.invariant-loop-at
invariant-loop-at l = (1 ≤ l.at) × Writing l.number l.left (l.at - 1) l.field
