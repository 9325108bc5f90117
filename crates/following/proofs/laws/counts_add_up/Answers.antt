use Rattle.following.proofs.Further.{counts_add_up}
use Rattle.following.proofs.laws.counts_add_up.Goals as goal

pub returns : goal.returns
returns c = counts_add_up
