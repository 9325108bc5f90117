use Rattle.std.proofs.Common.{◌+◌, Ok, Err, ap, ◌∙◌}
use Rattle.table.specs.Tables.{room}
use Rattle.book.specs.Books.{plain}
use Rattle.following.specs.Follower.{run_held}
use Rattle.running.specs.Runners.{room_of, held_in}
use Rattle.running.proofs.Turns.{wanted_runs}
use Rattle.running.proofs.runner.Runner.run_wanted.Goals as goal

pub returns : goal.returns
returns c =
    let self = c.args.self.now in
    let f = c.in_default.ensures in
    let g = c.run_held.ensures in
    record {
      place =
          g.place
          ∙ ap (λ s. run_held (record { for_book = s; for_held = room self.held }) (plain c.run.new.self) (c.args.wanted + 1) (held_in self)) f.slots
          ∙ wanted_runs (room_of self) (plain self.book.now) c.args.wanted c.args.message.now (held_in self) (Ok (plain c.run.new.self)) f.answer;
      room = g.room ∙ ap (λ s. record { for_book = s; for_held = room self.held }) f.slots;
    }

pub returns-in-Err : goal.returns-in-Err
returns-in-Err c =
    let self = c.args.self.now in
    let f = c.in-Err.ensures in
    record {
      place = wanted_runs (room_of self) (plain self.book.now) c.args.wanted c.args.message.now (held_in self) (Err c.in-Err.cause) f.answer;
      room = ap (λ s. record { for_book = s; for_held = room self.held }) f.slots;
    }
