use Rattle.std.proofs.Common.{rules}
use Rattle.wire.proofs.Skips.{skip_folded}
use Rattle.wire.proofs.frames.skip_messages.Goals as goal

pub returns-clause-rest : goal.returns-clause-rest
returns-clause-rest c =
    let ran = c.try_fold.ensures.ran in
    (skip_folded _ (λ p q i h. search rules) c.args.count ran.0 _ _ ran.1 _ _ _ _ ran.4.1 ran.4.2 ran.5 ran.6 (λ x s. search rules)).1

pub returns-clause-within : goal.returns-clause-within
returns-clause-within c =
    let ran = c.try_fold.ensures.ran in
    (skip_folded _ (λ p q i h. search rules) c.args.count ran.0 _ _ ran.1 _ _ _ _ ran.4.1 ran.4.2 ran.5 ran.6 (λ x s. search rules)).0
