use Rattle.follower.proofs.Dispatching.{unwritten, shows_lamp, asks}
use Rattle.follower.proofs.follower.Follower.dispatch.Goals as goal

pub returns-in-StartAtOne-clause-rows : goal.returns-in-StartAtOne-clause-rows
returns-in-StartAtOne-clause-rows g c = unwritten g.S.Source.meaning c.args.self.now _ _ _ c.in-StartAtOne.is tt

pub returns-in-StartBySnapshot-clause-rows : goal.returns-in-StartBySnapshot-clause-rows
returns-in-StartBySnapshot-clause-rows g c = unwritten g.S.Source.meaning c.args.self.now _ _ _ c.in-StartBySnapshot.is tt

pub returns-in-Stop-clause-rows : goal.returns-in-Stop-clause-rows
returns-in-Stop-clause-rows g c = unwritten g.S.Source.meaning c.args.self.now _ _ _ c.in-Stop.is tt

pub returns-in-Packet-clause-rows : goal.returns-in-Packet-clause-rows
returns-in-Packet-clause-rows g c = unwritten g.S.Source.meaning c.args.self.now _ _ _ c.in-Packet.is tt

pub returns-in-Snapshot-clause-rows : goal.returns-in-Snapshot-clause-rows
returns-in-Snapshot-clause-rows g c = unwritten g.S.Source.meaning c.args.self.now _ _ _ c.in-Snapshot.is tt

pub returns-in-Repair-clause-rows : goal.returns-in-Repair-clause-rows
returns-in-Repair-clause-rows g c = unwritten g.S.Source.meaning c.args.self.now _ _ _ c.in-Repair.is tt

pub returns-in-Lamp-clause-outcome : goal.returns-in-Lamp-clause-outcome
returns-in-Lamp-clause-outcome g c = shows_lamp g.S.Source.meaning c.args.self.now _ _ _ c.lamp.ensures c.in-Lamp.is

pub returns-in-Lamp-clause-rows : goal.returns-in-Lamp-clause-rows
returns-in-Lamp-clause-rows g c = unwritten g.S.Source.meaning c.args.self.now _ _ _ c.in-Lamp.is tt

pub returns-in-Ask-clause-outcome : goal.returns-in-Ask-clause-outcome
returns-in-Ask-clause-outcome g c = asks g.S.Source.meaning c.args.self.now _ _ _ _ c.in-Ask.is c.ask.ensures.answer
