use Rattle.std.proofs.Common.{◌≡◌, ◌-◌}
use Rattle.following.specs.Follower.{mended}
use Rattle.running.specs.Runners.{room_of, place_in}
use Rattle.running.proofs.Mending.{added_to}
use Rattle.running.proofs.runner.Runner.mend.Given as goal

abbrev pub invariant-loop-fetched : goal.invariant-loop-fetched
invariant-loop-fetched g l =
    let m = g.S.Source in
    (m.meaning l.source ≡ m.meaning l.fn.source)
    × (room_of l.self ≡ room_of l.fn.self)
    × (mended (room_of l.fn.self) (m.meaning l.fn.source).held l.highest l.budget (place_in l.fn.self l.fn.reached)
    ≡ added_to l.fetched (mended (room_of l.fn.self) (m.meaning l.fn.source).held l.highest (l.budget - l.fetched) (place_in l.self l.reached)))
