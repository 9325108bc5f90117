use Rattle.std.proofs.Common.{rules}
use Rattle.wire.proofs.Steps.{filled}
use Rattle.wire.proofs.messages.walk.filled.Goals as goal

pub returns : goal.returns
returns c = filled c.args.count c.args.bytes.now _ _ _ c.skip_messages.ensures.rest c.is_some_and.ensures (λ r t. search rules)
