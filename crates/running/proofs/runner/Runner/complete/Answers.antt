use Rattle.std.proofs.Common.{ℕ, map, ap, ◌∙◌}
use Rattle.table.specs.Tables.{entries}
use Rattle.book.specs.Books.{slots}
use Rattle.following.specs.Follower.{run_held}
use Rattle.following.specs.States.{Room}
use Rattle.running.specs.Rows.{held_message}
use Rattle.running.specs.Runners.{book_in, room_of}
use Rattle.running.proofs.Loading.{rows_from}
use Rattle.running.proofs.runner.Runner.complete.Goals as goal

pub returns : goal.returns
returns c =
    let self = c.args.self.now in
    let next = c.args.next.number in
    let g = c.remove_below.ensures in
    let over : ℕ → Room = λ n. record { for_book = slots self.book.now; for_held = n } in
    let f = c.run_held.ensures in
    record {
      place =
          f.place
          ∙ ap (λ n. run_held (over n) (book_in self) next (map held_message (entries c.remove_below.new.self))) g.room
          ∙ ap (run_held (room_of self) (book_in self) next) (ap (map held_message) g.entries ∙ rows_from next (entries self.held));
      room = f.room ∙ ap over g.room;
    }
