use Rattle.std.proofs.Common.{ap, ◌∙◌, arith}
use Rattle.std.proofs.lemmas.List.{length-set, length-take-le}
use Rattle.table.specs.Rows.{ordered}
use Rattle.table.proofs.Laws.{ordered_front}
use Rattle.table.proofs.Shifts.{opened}
use Rattle.table.proofs.Table.insert.Goals as goal

pub invariant_of-self : goal.invariant_of-self
invariant_of-self g c =
    let n = length-take-le c.args.self.now.used c.args.self.now.slots.now c.args.self.now.fits in
    record {
      fits = omega (arith, n, c.args.self.now.fits, c.requires.within);
      kept = ordered_front g.T.Row.key g.T.Row.order c.args.i c.args.self.now.used c.args.self.now.slots.now (omega (arith, n, c.requires.within)) c.args.self.now.kept;
    }

pub invariant_of-self-3 : goal.invariant_of-self-3
invariant_of-self-3 g c =
    let n = length-take-le c.args.self.now.used c.args.self.now.slots.now c.args.self.now.fits in
    let is = opened c.args.self.now.slots.now c.args.self.now.used c.copy_within.new.self c.args.i c.args.e (omega (arith, n, c.requires.within)) c.requires.free c.copy_within.ensures.after in
    record {
      fits = omega (arith, c.requires.free, c.copy_within.ensures.len, length-set c.copy_within.new.self c.args.i c.args.e);
      kept = ap (ordered g.T.Row.key g.T.Row.order) is ∙ c.requires.orderly;
    }

pub returns : goal.returns
returns g c =
    let n = length-take-le c.args.self.now.used c.args.self.now.slots.now c.args.self.now.fits in
    record {
      entries = opened c.args.self.now.slots.now c.args.self.now.used c.copy_within.new.self c.args.i c.args.e (omega (arith, n, c.requires.within)) c.requires.free c.copy_within.ensures.after;
      room = length-set c.copy_within.new.self c.args.i c.args.e ∙ c.copy_within.ensures.len;
    }
