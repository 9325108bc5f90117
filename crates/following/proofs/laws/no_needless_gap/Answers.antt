use Rattle.following.proofs.Gaps.{no_needless_gap}
use Rattle.following.proofs.laws.no_needless_gap.Goals as goal

pub returns : goal.returns
returns c = no_needless_gap
