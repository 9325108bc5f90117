use Rattle.std.proofs.Common.{◌<◌, ◌≤◌, Ok, sym, ap, ◌∙◌, arith}
use Rattle.std.proofs.lemmas.Bool.{cond-true, le-leb}
use Rattle.wire.specs.Numbers.{most32}
use Rattle.session.specs.Fields.{number_of}
use Rattle.session.proofs.Digits.{room, writing_on, written, reads_back}
use Rattle.session.proofs.field.write_number.Goals as goal

pub loop-at-preserved : goal.loop-at-preserved
loop-at-preserved c =
    let w = c.loop-at.invariant.1 in
    let small = c.if-number-gt-MOST.false in
    let big : 10 ≤ c.loop-at.left = omega arith in
    (room c.args.number _ _ c.loop-at.field small w big, writing_on c.args.number _ _ c.loop-at.field small w big)

pub returns-then-left-eq0-clause-value : goal.returns-then-left-eq0-clause-value
returns-then-left-eq0-clause-value c =
    let small = c.if-number-gt-MOST.false in
    let low : c.loop-at.left < 10 = omega arith in
    ap Ok (written c.args.number _ _ c.loop-at.field small c.loop-at.invariant.1 low) ∙ sym (cond-true _ _ _ (le-leb c.args.number most32 small))

pub returns-then-left-eq0-clause-reads_back : goal.returns-then-left-eq0-clause-reads_back
returns-then-left-eq0-clause-reads_back c =
    let small = c.if-number-gt-MOST.false in
    let low : c.loop-at.left < 10 = omega arith in
    ap number_of (written c.args.number _ _ c.loop-at.field small c.loop-at.invariant.1 low) ∙ reads_back c.args.number small
