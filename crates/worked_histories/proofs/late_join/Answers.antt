use Rattle.worked_histories.proofs.Computed.{late_join}
use Rattle.worked_histories.proofs.late_join.Goals as goal

pub returns : goal.returns
returns c = late_join
