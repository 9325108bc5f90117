use Rattle.std.proofs.Common.{length, Err, sym, ap, ◌∙◌}
use Rattle.std.proofs.lemmas.Result.{err_from_is_err_and}
use Rattle.running.specs.Runners.{book_in, held_in}
use Rattle.follower.specs.Model.{slots_of, question_of, answer_of, rows_after}
use Rattle.follower.proofs.Asking.{answer_green, rows_green, asked_else}
use Rattle.follower.proofs.Outcomes.{no_question}
use Rattle.follower.proofs.follower.Follower.ask.Goals as goal

pub returns-in_err-started : goal.returns-in_err-started
returns-in_err-started c =
    let f = c.args.self.now in
    let rows = c.args.rows.now in
    let p = err_from_is_err_and c.from_residual.result c.from_residual.ensures.1 in
    let e = no_question (slots_of f) (book_in f.runner) (held_in f.runner) f.state c.in_err-started.field-0.0 c.in_err-started.ensures (question_of c.args.question (length rows)) in
    record {
      answer = p.1 ∙ ap Err p.2 ∙ ap answer_of (sym e);
      rows = ap (λ o. rows_after o rows) (sym e);
    }

pub returns-in-Green : goal.returns-in-Green
returns-in-Green c =
    let f = c.args.self.now in
    let rows = c.args.rows.now in
    let q = question_of c.args.question (length rows) in
    record {
      answer = answer_green (slots_of f) (book_in f.runner) q (held_in f.runner) f.state _ c.in-Green.wanted c.in_ok-started.ensures c.in-Green.ensures c.read.result c.read.ensures.answer;
      rows = rows_green (slots_of f) (book_in f.runner) q (held_in f.runner) f.state _ c.in-Green.wanted c.in_ok-started.ensures c.in-Green.ensures rows c.read.new.rows c.read.ensures.rows;
    }

pub returns-in_default : goal.returns-in_default
returns-in_default c =
    let f = c.args.self.now in
    let rows = c.args.rows.now in
    let q = question_of c.args.question (length rows) in
    let e = asked_else (slots_of f) (book_in f.runner) q (held_in f.runner) f.state _ c.lamp.result c.in_ok-started.ensures c.lamp.ensures c.in_default.not-Green in
    record {
      answer = ap answer_of e;
      rows = ap (λ o. rows_after o rows) e;
    }
