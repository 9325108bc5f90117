use Rattle.following.proofs.Packets.{wanted_is_taken}
use Rattle.following.proofs.laws.wanted_is_taken.Goals as goal

pub returns : goal.returns
returns c = wanted_is_taken
