use Rattle.std.proofs.Common.{◌≡◌, ◌-◌, map, drop, Ok, Err, sym, refl, ap, ◌∙◌, arith}
use Rattle.book.specs.Books.{plain}
use Rattle.book.specs.Plain.{ran}
use Rattle.following.specs.Follower.{wanting}
use Rattle.running.specs.Rows.{held_message}
use Rattle.running.proofs.Turns.{Waits, row_waits, row_runs, rows_end}
use Rattle.running.proofs.runner.runs.run_rows.Goals as goal
use Rattle.running.proofs.runner.runs.run_rows.Goals.{else-loop-row-test, then-loop-row-test+then-number-next}

pub loop-row-init : goal.loop-row-init
loop-row-init c = (omega arith, c.args.wanted.within, refl, λ room e. refl)

pub returns-in-Err-clause-runs : goal.returns-in-Err-clause-runs
returns-in-Err-clause-runs c =
    let i = c.loop-row.invariant in
    let book = plain c.loop-row.book in
    let f = c.in-Err.ensures in
    λ room e.
    i.3 room e
    ∙ row_runs room book c.loop-row.next c.args.rows.now c.loop-row.row-index c.row-item.result c.loop-row-test.true c.row-item.is (Err c.in-Err.cause)
    (sym c.number.ensures ∙ c.if-number-next.false)
    (f.answer ∙ ap (λ s. ran s book c.message.result.now) (i.2 ∙ sym e) ∙ ap (ran room.for_book book) c.message.ensures)

pub loop-row-preserved : goal.loop-row-preserved
loop-row-preserved c =
    let i = c.loop-row.invariant in
    let book = plain c.loop-row.book in
    let at = sym c.number.ensures ∙ c.if-number-next.false in
    let f = c.in_default.ensures in (
      omega (arith, i.0),
      omega (arith, at, c.row-item.result.numbered),
      f.slots ∙ i.2,
      λ room e.
          i.3 room e
          ∙ row_runs room book c.loop-row.next c.args.rows.now c.loop-row.row-index c.row-item.result c.loop-row-test.true c.row-item.is (Ok (plain c.run.new.self)) at
          (f.answer ∙ ap (λ s. ran s book c.message.result.now) (i.2 ∙ sym e) ∙ ap (ran room.for_book book) c.message.ensures),
    )

pub invariant_of-result-2 : goal.invariant_of-result-2
invariant_of-result-2 c = record { within = c.loop-row.invariant.1 }

pub returns-clause-runs : goal.returns-clause-runs
returns-clause-runs c =
    let i = c.loop-row.invariant in
    let rows = c.args.rows.now in
    let book = plain c.loop-row.book in
    let n : c.loop-row.next - c.args.wanted.number ≡ c.loop-row.row-index = omega (arith, i.0) in (
      omega (arith, i.0),
      λ room e.
          let waits : Waits room book c.loop-row.next rows c.loop-row.row-index =
          elim c.loop-row-test.branch [
            | else-loop-row-test w ↦ rows_end room book c.loop-row.next rows c.loop-row.row-index (omega arith)
            | then-loop-row-test+then-number-next w ↦
                row_waits room book c.loop-row.next rows c.loop-row.row-index w.row-item.result w.loop-row-test.true w.row-item.is
                (λ q. w.if-number-next.true (w.number.ensures ∙ q))
          ] in
          i.3 room e
          ∙ waits
          ∙ ap (λ k. wanting (record { book = book; wanted = c.loop-row.next }) (map held_message (drop k rows))) (sym n),
    )
