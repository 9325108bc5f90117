use Rattle.recovery.proofs.Walks.{served_sized, agrees_onward}
use Rattle.recovery.proofs.recovery.Recovery.find.Goals as goal

pub returns-then-number-self-clause-sized : goal.returns-then-number-self-clause-sized
returns-then-number-self-clause-sized c = served_sized c.args.self.now.first.number c.args.number c.args.self.now.first.messages

pub returns-else-number-self-clause-sized : goal.returns-else-number-self-clause-sized
returns-else-number-self-clause-sized c = served_sized c.args.self.now.first.number c.args.number c.args.self.now.first.messages

pub returns-else-number-self-clause-agrees : goal.returns-else-number-self-clause-agrees
returns-else-number-self-clause-agrees c =
    let r = c.args.self.now in
    agrees_onward r.first r.next _ r.agrees c.walk-else-number-self.ensures.agrees
