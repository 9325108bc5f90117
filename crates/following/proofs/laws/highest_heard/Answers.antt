use Rattle.following.proofs.Further.{highest_heard}
use Rattle.following.proofs.laws.highest_heard.Goals as goal

pub returns : goal.returns
returns c = highest_heard
