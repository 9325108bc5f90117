use Rattle.std.proofs.Common.{◌≡◌, length, filter}
use Rattle.book.specs.Questions.{asked}
use Rattle.book.proofs.Shown.{front}
use Rattle.book.proofs.book.questions.Asked.show.Given as goal

abbrev pub invariant-loop-n : goal.invariant-loop-n
invariant-loop-n l = l.rows ≡ front (filter (asked l.fn.self.symbol l.fn.self.side) l.live) l.initial.rows (length l.yielded)
