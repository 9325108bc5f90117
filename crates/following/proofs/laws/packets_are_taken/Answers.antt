use Rattle.following.proofs.Further.{packets_are_taken}
use Rattle.following.proofs.laws.packets_are_taken.Goals as goal

pub returns : goal.returns
returns c = packets_are_taken
