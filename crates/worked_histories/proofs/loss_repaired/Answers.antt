use Rattle.worked_histories.proofs.Computed.{loss_repaired}
use Rattle.worked_histories.proofs.loss_repaired.Goals as goal

pub returns : goal.returns
returns c = loss_repaired
