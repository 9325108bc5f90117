use Rattle.std.proofs.Common.{◌≡◌, Some, None, Ok, Err, sym, ap, ◌∙◌}
use Rattle.session.specs.Carried.{still_carried}
use Rattle.book.specs.Books.{plain, slots}
use Rattle.book.specs.Plain.{empty, ran_there}
use Rattle.book.specs.Runs.{run_there}
use Rattle.following.specs.Follower.{completed}
use Rattle.running.proofs.Loading.{one_there}
use Rattle.running.proofs.runner.snapshots.load_book.Goals as goal

pub loop-message-init : goal.loop-message-init
loop-message-init c =
    let s = c.clear.ensures in (
      tt,
      tt,
      s.slots,
      ap (λ m. run_there (slots c.args.book.now) (still_carried m) empty) (sym c.into_iter-message-iterator.ensures.into_iter_gives)
          ∙ ap (run_there (slots c.args.book.now) (still_carried c.into_iter-message-iterator.result)) (sym s.plain),
    )

pub loop-message-preserved : goal.loop-message-preserved
loop-message-preserved c =
    let i = c.loop-message.invariant in
    let f = c.in-Ok-None.ensures in
    let book = plain c.loop-message.book in
    let a = f.answer in
    let e : Ok (None, plain c.run_snapshot.new.self) ≡ ran_there (slots c.loop-message.book) book c.in-Some.message.now = cc in (
      tt,
      tt,
      f.slots ∙ i.2,
      i.3
          ∙ one_there (slots c.args.book.now) book _ _ _ (Ok (None, plain c.run_snapshot.new.self)) c.in-Some.ensures.steps
          (e ∙ ap (λ s. ran_there s book c.in-Some.message.now) i.2),
    )

pub returns-in-Ok-Some-clause-loaded : goal.returns-in-Ok-Some-clause-loaded
returns-in-Ok-Some-clause-loaded c =
    let i = c.loop-message.invariant in
    let f = c.in-Ok-Some.ensures in
    let book = plain c.loop-message.book in
    let a = f.answer in
    let e : Ok (Some c.in-Ok-Some.next, plain c.run_snapshot.new.self) ≡ ran_there (slots c.loop-message.book) book c.in-Some.message.now = cc in
    λ session.
    sym (ap (completed session)
    (i.3
    ∙ one_there (slots c.args.book.now) book _ _ (still_carried c.next.new.self) (Ok (Some c.in-Ok-Some.next, plain c.run_snapshot.new.self))
    c.in-Some.ensures.steps
    (e ∙ ap (λ s. ran_there s book c.in-Some.message.now) i.2)))

pub returns-in-Err-clause-loaded : goal.returns-in-Err-clause-loaded
returns-in-Err-clause-loaded c =
    let i = c.loop-message.invariant in
    let f = c.in-Err.ensures in
    let book = plain c.loop-message.book in
    λ session.
    sym (ap (completed session)
    (i.3
    ∙ one_there (slots c.args.book.now) book _ _ (still_carried c.next.new.self) (Err c.in-Err.cause) c.in-Some.ensures.steps
    (f.answer ∙ ap (λ s. ran_there s book c.in-Some.message.now) i.2)))

pub returns-clause-loaded : goal.returns-clause-loaded
unfolding run_there
returns-clause-loaded c =
    let i = c.loop-message.invariant in
    λ session.
    sym (ap (completed session)
    (i.3
    ∙ ap (λ xs. run_there (slots c.args.book.now) xs (plain c.loop-message.book)) c.in-None.ensures.steps.0))
