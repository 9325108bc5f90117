use Rattle.following.proofs.Packets.{drops_only_when_full}
use Rattle.following.proofs.laws.drops_only_when_full.Goals as goal

pub returns : goal.returns
returns c = drops_only_when_full
