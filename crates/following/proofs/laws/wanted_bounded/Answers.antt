use Rattle.following.proofs.Further.{wanted_bounded}
use Rattle.following.proofs.laws.wanted_bounded.Goals as goal

pub returns : goal.returns
returns c = wanted_bounded
