use Rattle.worked_histories.proofs.Computed.{repeats_and_drops}
use Rattle.worked_histories.proofs.repeats_and_drops.Goals as goal

pub returns : goal.returns
returns c = repeats_and_drops
