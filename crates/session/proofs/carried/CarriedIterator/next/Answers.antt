use Rattle.std.proofs.Common.{sym, refl, ◌∙◌}
use Rattle.std.proofs.lemmas.Bool.{cond-true, cond-false}
use Rattle.session.proofs.Carrying.{carried_on}
use Rattle.session.proofs.carried.CarriedIterator.next.Goals as goal

pub returns-then-not-is_carried-clause-steps : goal.returns-then-not-is_carried-clause-steps
returns-then-not-is_carried-clause-steps c =
    (carried_on _ _ _ c.in_ok-message.ensures.told ∙ cond-false _ _ _ (sym c.is_carried.ensures ∙ c.if-not-is_carried.true), refl)

pub returns-clause-steps : goal.returns-clause-steps
returns-clause-steps c = carried_on _ _ _ c.in_ok-message.ensures.told ∙ cond-true _ _ _ (sym c.is_carried.ensures ∙ c.if-not-is_carried.false)
