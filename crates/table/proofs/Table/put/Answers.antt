use Rattle.std.proofs.Common.{ap, ◌∙◌, arith}
use Rattle.std.proofs.lemmas.List.{length-set}
use Rattle.table.specs.Rows.{ordered}
use Rattle.table.proofs.Shifts.{take_set_in}
use Rattle.table.proofs.Table.put.Goals as goal

pub invariant_of-self : goal.invariant_of-self
invariant_of-self g c =
    record {
      fits = omega (arith, c.args.self.now.fits, length-set c.args.self.now.slots.now c.args.i c.args.e);
      kept = ap (ordered g.T.Row.key g.T.Row.order) (take_set_in c.args.self.now.used c.args.self.now.slots.now c.args.i c.args.e) ∙ c.requires.orderly;
    }

pub returns : goal.returns
returns g c =
    record {
      entries = take_set_in c.args.self.now.used c.args.self.now.slots.now c.args.i c.args.e;
      room = length-set c.args.self.now.slots.now c.args.i c.args.e;
    }
