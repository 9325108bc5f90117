use Rattle.std.proofs.Common.{ap, ◌∙◌, arith}
use Rattle.std.proofs.lemmas.List.{length-take-le}
use Rattle.table.specs.Rows.{ordered}
use Rattle.table.specs.Tables.{entries}
use Rattle.table.proofs.Laws.{ordered_cut, ordered_front}
use Rattle.table.proofs.Shifts.{closed}
use Rattle.table.proofs.Table.cut.Goals as goal

pub invariant_of-self : goal.invariant_of-self
invariant_of-self g c =
    let n = length-take-le c.args.self.now.used c.args.self.now.slots.now c.args.self.now.fits in
    record {
      fits = omega (arith, n, c.args.self.now.fits, c.requires.forward, c.requires.within);
      kept = ordered_front g.T.Row.key g.T.Row.order c.args.i c.args.self.now.used c.args.self.now.slots.now (omega (arith, n, c.requires.forward, c.requires.within)) c.args.self.now.kept;
    }

pub invariant_of-self-2 : goal.invariant_of-self-2
invariant_of-self-2 g c =
    let n = length-take-le c.args.self.now.used c.args.self.now.slots.now c.args.self.now.fits in
    let is = closed c.args.self.now.slots.now c.args.self.now.used c.copy_within.new.self c.args.i c.args.j c.requires.forward (omega (arith, n, c.requires.within)) c.args.self.now.fits c.copy_within.ensures.after in
    record {
      fits = omega (arith, n, c.args.self.now.fits, c.requires.forward, c.copy_within.ensures.len);
      kept = ap (ordered g.T.Row.key g.T.Row.order) is ∙ ordered_cut g.T.Row.key g.T.Row.order c.args.i c.args.j (entries c.args.self.now) c.requires.forward c.args.self.now.kept;
    }

pub returns : goal.returns
returns g c =
    let n = length-take-le c.args.self.now.used c.args.self.now.slots.now c.args.self.now.fits in
    record {
      entries = closed c.args.self.now.slots.now c.args.self.now.used c.copy_within.new.self c.args.i c.args.j c.requires.forward (omega (arith, n, c.requires.within)) c.args.self.now.fits c.copy_within.ensures.after;
      room = c.copy_within.ensures.len;
    }
