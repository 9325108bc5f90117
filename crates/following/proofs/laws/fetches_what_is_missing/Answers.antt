use Rattle.following.proofs.Endings.{fetches_what_is_missing}
use Rattle.following.proofs.laws.fetches_what_is_missing.Goals as goal

pub returns : goal.returns
returns c = fetches_what_is_missing
