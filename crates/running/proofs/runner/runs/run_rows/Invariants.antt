use Rattle.std.proofs.Common.{◌≡◌, suc, ◌+◌, ◌≤◌, map, drop}
use Rattle.wire.specs.Numbers.{most32}
use Rattle.book.specs.Books.{plain, slots}
use Rattle.following.specs.States.{Room}
use Rattle.following.specs.Follower.{run_held}
use Rattle.running.specs.Rows.{held_message}
use Rattle.running.proofs.runner.runs.run_rows.Given as goal

abbrev pub invariant-loop-row : goal.invariant-loop-row
invariant-loop-row l =
    (l.next ≡ l.fn.wanted.number + l.row-index) × (l.next ≤ suc most32) × (slots l.book ≡ slots l.initial.book)
    × ((room : Room) → room.for_book ≡ slots l.initial.book →
    run_held room (plain l.initial.book) l.fn.wanted.number (map held_message l.rows) ≡ run_held room (plain l.book) l.next (map held_message (drop l.row-index l.rows)))
