use Rattle.std.proofs.Common.{◌∙◌, ap, rules}
use Rattle.session.specs.Fields.{digits_after}
use Rattle.session.proofs.Digits.{value_folded}
use Rattle.session.proofs.field.value.Goals as goal

pub returns : goal.returns
returns c =
    let ran = c.try_fold.ensures.ran in
    value_folded _ (λ p q x h. search rules) ran.0 _ _ _ ran.1 _ _ _ _ ran.4.1 ran.4.2 ran.5 ran.6 (λ x s. search rules) ∙ ap (digits_after 0) c.iter.ensures.rest
