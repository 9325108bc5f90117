use Rattle.worked_histories.proofs.Computed.{stops_before_green}
use Rattle.worked_histories.proofs.stops_before_green.Goals as goal

pub returns : goal.returns
returns c = stops_before_green
