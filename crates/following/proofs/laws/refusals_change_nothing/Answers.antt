use Rattle.following.proofs.Further.{refusals_change_nothing}
use Rattle.following.proofs.laws.refusals_change_nothing.Goals as goal

pub returns : goal.returns
returns c = refusals_change_nothing
