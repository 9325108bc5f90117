use Rattle.std.proofs.Common.{◌≡◌, Some, None, Ok, rules}
use Rattle.following.specs.Follower.{bookless, wanting}
use Rattle.running.specs.Runners.{room_of, book_in, fate_of}
use Rattle.running.proofs.Keeping.{treated_bookless, treated_above}
use Rattle.running.proofs.runner.Runner.treat.Goals as goal

pub returns-in-Ok-None-clause-treated : goal.returns-in-Ok-None-clause-treated
returns-in-Ok-None-clause-treated c =
    let q : c.args.reached ≡ Ok None = search rules in
    let self = c.args.self.now in
    treated_bookless (room_of self) self c.args.reached c.args.message.number c.args.message.bytes.now c.keep.new.self (fate_of c.keep.result)
    q (c.keep.ensures.kept bookless)

pub returns-else-message-wanted-2-clause-treated : goal.returns-else-message-wanted-2-clause-treated
returns-else-message-wanted-2-clause-treated c =
    let q : c.args.reached ≡ Ok (Some c.in-Ok-Some.wanted) = search rules in
    let self = c.args.self.now in
    let w = c.in-Ok-Some.wanted in
    let k = c.keep-else-message-wanted-2.ensures in
    treated_above (room_of self) self c.args.reached c.args.message.number c.args.message.bytes.now w q c.if-message-wanted.false c.if-message-wanted-2.false
    c.keep-else-message-wanted-2.new.self (fate_of c.keep-else-message-wanted-2.result) k.book (k.kept (λ hs. wanting (record { book = book_in self; wanted = w.number }) hs))
