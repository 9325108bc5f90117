use Rattle.following.proofs.Endings.{repairs_are_honest}
use Rattle.following.proofs.laws.repairs_are_honest.Goals as goal

pub returns : goal.returns
returns c = repairs_are_honest
