use Rattle.worked_histories.proofs.Computed.{foreign_refused}
use Rattle.worked_histories.proofs.foreign_refused.Goals as goal

pub returns : goal.returns
returns c = foreign_refused
