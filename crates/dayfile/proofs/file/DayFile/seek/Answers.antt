use Rattle.std.proofs.Common.{◌≤◌, sym, ap, ◌∙◌, arith}
use Rattle.dayfile.specs.Blocks.{blocks, good, in_blocks}
use Rattle.dayfile.proofs.Cuts.{held_here, held_later, held_none}
use Rattle.dayfile.proofs.file.DayFile.seek.Goals as goal

pub returns-in-Ok-clause-value : goal.returns-in-Ok-clause-value
returns-in-Ok-clause-value c =
    let s = c.in-Some.ensures.cases in
    let i = c.loop-block.invariant in
    let n = c.args.number in
    sym (held_here c.args.self.now.session c.loop-block.cursor.rest.now _ n _ s.0 (c.read.ensures ∙ ap good s.1) c.in-Ok.ensures.0) ∙ i.leads n (omega arith) i.reach

pub loop-block-preserved : goal.loop-block-preserved
loop-block-preserved c =
    let s = c.in-Some.ensures.cases in
    let i = c.loop-block.invariant in
    let h = c.in-Err.ensures in
    let from = i.from in
    let reach = h.0 in
    record {
      from = from;
      reach = omega arith;
      leads = λ n low high.
          let low1 : c.args.number ≤ n = omega arith in
          let high1 : n ≤ c.loop-block.cursor.high = omega arith in
          let high2 : n ≤ c.in-Err.last = omega arith in
          ap (λ b. in_blocks c.args.self.now.session (blocks b) n) s.2
          ∙ sym (held_later c.args.self.now.session c.loop-block.cursor.rest.now _ n s.0 (c.read.ensures ∙ ap good s.1) (h.1 n low1 high2)) ∙ i.leads n low high1;
    }

pub returns-clause-value : goal.returns-clause-value
returns-clause-value c =
    let i = c.loop-block.invariant in
    let n = c.args.number in
    let short = c.in_default.ensures.cases in
    sym (held_none c.args.self.now.session c.loop-block.cursor.rest.now n short) ∙ i.leads n (omega arith) i.reach
