use Rattle.known_results.proofs.Computed.{known_results}
use Rattle.known_results.proofs.known_results_stand.Goals as goal

pub returns : goal.returns
returns c = known_results
