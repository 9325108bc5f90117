use Rattle.std.proofs.Common.{◌≡◌, ℕ, ◌≤◌}
use Rattle.wire.specs.Packets.{left_in}
use Rattle.source.specs.Meanings.{numbered_from}
use Rattle.dayfile.proofs.look.in_messages.Given as goal

abbrev pub invariant-loop-m : goal.invariant-loop-m
invariant-loop-m l =
    (goal.iterator-loop-m).can_next l.m-iterator × (goal.iterator-loop-m).is_finite l.m-iterator
    × ((n : ℕ) → l.number ≤ n → numbered_from l.m-iterator.number (left_in l.m-iterator) n ≡ numbered_from l.messages.number (left_in l.messages) n)
