use Rattle.std.proofs.Common.{◌<◌, sym, ◌∙◌, arith}
use Rattle.source.proofs.Numbered.{numbered_below, numbered_none, numbered_here, numbered_past}
use Rattle.dayfile.proofs.look.in_messages.Goals as goal

pub returns-then-m-number : goal.returns-then-m-number
returns-then-m-number c =
    let s = c.loop-m.m-iterator in
    let w = c.in-Some.ensures.steps in
    let here = sym w.1 ∙ c.if-m-number.true in (
      sym (c.loop-m.invariant.2 c.args.number (omega arith)) ∙ numbered_here s.number c.args.number _ _ _ w.0 here,
      (c.in-Some.m.least, c.in-Some.m.most),
    )

pub returns-then-m-number-2 : goal.returns-then-m-number-2
returns-then-m-number-2 c =
    let s = c.loop-m.m-iterator in
    let w = c.in-Some.ensures.steps in
    let e = w.1 in
    let h = c.if-m-number-2.true in
    (omega arith, λ n low high. sym (c.loop-m.invariant.2 n low) ∙ numbered_below s.number n _ (omega arith))

pub loop-m-preserved : goal.loop-m-preserved
loop-m-preserved c =
    let s = c.loop-m.m-iterator in
    let w = c.in-Some.ensures.steps in
    let e = w.1 in
    let past : c.in-Some.m.number < c.args.number = omega arith in
    (tt, tt, λ n low. sym (numbered_past s.number c.next.new.self.number n _ _ _ w.0 w.2 (omega arith)) ∙ c.loop-m.invariant.2 n low)

pub returns : goal.returns
returns c =
    let s = c.loop-m.m-iterator in
    (omega arith, λ n low high. sym (c.loop-m.invariant.2 n low) ∙ numbered_none s.number n _ c.in-None.ensures.steps.0)
