use Rattle.std.proofs.Common.{◌≡◌}
use Rattle.session.specs.Carried.{still_carried}
use Rattle.book.specs.Books.{plain, slots}
use Rattle.book.specs.Plain.{empty}
use Rattle.book.specs.Runs.{run_there}
use Rattle.running.proofs.runner.snapshots.load_book.Given as goal

abbrev pub invariant-loop-message : goal.invariant-loop-message
invariant-loop-message l =
    (goal.iterator-loop-message).can_next l.message-iterator × (goal.iterator-loop-message).is_finite l.message-iterator
    × (slots l.book ≡ slots l.fn.book)
    × (run_there (slots l.fn.book) (still_carried l.fn.messages) empty ≡ run_there (slots l.fn.book) (still_carried l.message-iterator) (plain l.book))
