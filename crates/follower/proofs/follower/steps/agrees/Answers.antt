use Rattle.std.proofs.Common.{rules}
use Rattle.follower.proofs.Outcomes.{agrees_by}
use Rattle.follower.proofs.follower.steps.agrees.Goals as goal

pub returns : goal.returns
returns c = agrees_by c.args.known c.args.session c.is_none_or.result c.is_none_or.ensures (λ known post. search rules)
