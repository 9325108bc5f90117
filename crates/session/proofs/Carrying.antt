-- One message more of what a session carries.
use Rattle.std.proofs.Common.{◌≡◌, ℕ, ◌≤◌, cond, ◌&&◌, ◌||◌, eqb, ◌==◌, List, [], ◌∷◌, length, sym, refl, ap, ◌∙◌, ⊎_elim}
use Rattle.std.proofs.lemmas.Bool.{cond-true, cond-false, cond_both, cases_Bool, and_parts, leb-true}
use Rattle.std.specs.List.{AllByRecursion as All}
use Rattle.session.specs.Sessions.{Framed, told}
use Rattle.session.specs.Carried.{message_sized, carried}
use Rattle.session.proofs.Framing.{told_first}

-- the messages skipped in front carry nothing
carried_told : (ms : List Framed) → carried ms ≡ carried (told ms)
unfolding carried
carried_told [] = refl
carried_told (m ∷ ms) =
    ⊎_elim (λ e. cond-true _ _ _ e ∙ carried_told ms ∙ sym (ap carried (cond-true _ _ _ e))) (λ e. sym (ap carried (cond-false _ _ _ e)))
    (cases_Bool (eqb m.letter 43 || eqb m.letter 72))

pub carried_none : (ms : List Framed) → told ms ≡ [] → carried ms ≡ []
unfolding carried
carried_none ms e = carried_told ms ∙ ap carried e

pub carried_on : (xs ms : List Framed) (m : Framed) → told xs ≡ m ∷ ms → carried xs ≡ cond (m.letter == 83 && message_sized m.body) (m.body ∷ carried ms) []
unfolding carried
carried_on xs ms m e = carried_told xs ∙ ap carried e ∙ cond-false _ _ _ (told_first xs ms m e)

-- each message that is carried has 5 to 80 bytes
abbrev pub MessageSized : List ℕ → Type 0
MessageSized m = (5 ≤ length m) × (length m ≤ 80)

pub carried_sized : (ms : List Framed) → All MessageSized (carried ms)
unfolding carried
carried_sized [] = tt
carried_sized (m ∷ ms) =
    cond_both (eqb m.letter 43 || eqb m.letter 72) _ _ (All MessageSized) (λ _. carried_sized ms)
    (λ _. cond_both (eqb m.letter 83 && message_sized m.body) _ _ (All MessageSized)
    (λ e.
    let sized = and_parts _ _ (and_parts _ _ e).1 in
    ((leb-true 5 (length m.body) sized.0, leb-true (length m.body) 80 sized.1), carried_sized ms))
    (λ _. tt))
