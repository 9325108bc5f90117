use Rattle.worked_histories.proofs.Computed.{red_needed}
use Rattle.worked_histories.proofs.red_needed.Goals as goal

pub returns : goal.returns
returns c = red_needed
