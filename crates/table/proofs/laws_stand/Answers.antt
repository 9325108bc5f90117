use Rattle.table.proofs.Laws.{lawful_total, all_laws}
use Rattle.table.proofs.laws_stand.Goals as goal

pub returns : goal.returns
returns g c = all_laws g.T.Row.key g.T.Row.order (lawful_total g.met.T.Row.lawful)
