use Rattle.std.proofs.Common.{◌≡◌}
use Rattle.wire.specs.Packets.{left_in}
use Rattle.following.specs.Follower.{place_after, counts_of}
use Rattle.running.specs.Runners.{room_of, place_in}
use Rattle.running.proofs.Counting.{added, Bounded}
use Rattle.running.proofs.runner.Runner.treat_all.Given as goal

abbrev pub invariant-loop-message : goal.invariant-loop-message
invariant-loop-message l =
    (goal.iterator-loop-message).can_next l.message-iterator × (goal.iterator-loop-message).is_finite l.message-iterator
    × (room_of l.self ≡ room_of l.fn.self)
    × (place_after (room_of l.fn.self) (place_in l.fn.self l.fn.reached) l.fn.messages.number (left_in l.fn.messages)
    ≡ place_after (room_of l.fn.self) (place_in l.self l.reached) l.message-iterator.number (left_in l.message-iterator))
    × (counts_of (room_of l.fn.self) (place_in l.fn.self l.fn.reached) l.fn.messages.number (left_in l.fn.messages)
    ≡ added l.counts (counts_of (room_of l.fn.self) (place_in l.self l.reached) l.message-iterator.number (left_in l.message-iterator)))
    × Bounded l.counts l.message-iterator.left
