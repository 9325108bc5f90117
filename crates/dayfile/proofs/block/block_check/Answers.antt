use Rattle.std.proofs.Common.{◌+◌, ◌*◌, ◌<◌, get_or, take, drop, sym, ap, ◌∙◌, arith}
use Rattle.dayfile.specs.Blocks.{weighted}
use Rattle.dayfile.proofs.Layouts.{weighted_more, term_most, covered_most, check_is}
use Rattle.dayfile.proofs.block.block_check.Goals as goal

pub overflow_add-sum-in-loop-i : goal.overflow_add-sum-in-loop-i
overflow_add-sum-in-loop-i c =
    let b = c.args.block.now in
    let i = c.loop-i.i in
    let byte : get_or b i 0 < 256 = omega (arith, c.type_inv.block i) in
    let t = term_most b c.min.result i c.from.result c.min.ensures c.loop-i-test.true c.from.ensures byte in
    let m = covered_most b c.min.result i c.min.ensures c.loop-i-test.true in
    omega arith

pub loop-i-preserved : goal.loop-i-preserved
loop-i-preserved c =
    let b = c.args.block.now in
    let i = c.loop-i.i in
    let byte : get_or b i 0 < 256 = omega (arith, c.type_inv.block i) in
    let t = term_most b c.min.result i c.from.result c.min.ensures c.loop-i-test.true c.from.ensures byte in
    let w = weighted_more (take c.min.result b) i c.loop-i.sum c.loop-i-test.true in
    let f = ap (λ x. c.loop-i.sum + (i + 1) * x + weighted (i + 1 + 1) (drop (i + 1) (take c.min.result b))) c.from.ensures in
    (f ∙ sym w ∙ c.loop-i.invariant.0, omega arith)

pub returns : goal.returns
returns c =
    check_is c.args.block.now c.min.result c.loop-i.i c.loop-i.sum c.min.ensures c.loop-i-test.false c.loop-i.invariant.0
