use Rattle.following.proofs.Promises.{law}
use Rattle.following.proofs.laws.law_stands.Goals as goal

pub returns : goal.returns
returns c = law
