use Rattle.known_results.proofs.Joined.{gap_among_held}
use Rattle.known_results.proofs.gap_among_held.Goals as goal

pub returns : goal.returns
returns c = gap_among_held
