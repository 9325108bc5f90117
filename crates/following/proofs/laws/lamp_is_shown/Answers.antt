use Rattle.following.proofs.Further.{lamp_is_shown}
use Rattle.following.proofs.laws.lamp_is_shown.Goals as goal

pub returns : goal.returns
returns c = lamp_is_shown
