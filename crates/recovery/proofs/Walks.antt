-- Walks over the messages that a session carries.
use Rattle.std.proofs.Common.{◌≡◌, ℕ, ◌+◌, ◌<◌, ◌≤◌, leb, List, [], ◌∷◌, length, Some, None, Option, sym, refl, ap, ◌∙◌, arith, Bor}
use Rattle.std.proofs.lemmas.Bool.{cond_both}
use Rattle.std.specs.Iterator.{YieldsThen}
use Rattle.wire.specs.Numbers.{most32}
use Rattle.session.specs.declared.carried.Carried.{Carried}
use Rattle.session.specs.Carried.{still_carried, Carries}
use Rattle.session.specs.Sessions.{rest_of}
use Rattle.session.proofs.Carrying.{carried_sized}
use Rattle.source.specs.Meanings.{numbered_from, Sized}
use Rattle.source.proofs.Numbered.{numbered_none, numbered_here, numbered_past, numbered_sized}
use Rattle.std.specs.Prelude.{IfSome}
use Rattle.recovery.specs.declared.place.Place.{Place}
use Rattle.recovery.specs.Places.{Agrees}
use Rattle.recovery.specs.Recoveries.{served_from}

-- a walk that ends too early comes to nothing
pub walk_none : (s u : Carried) (xs : List (Bor (List ℕ))) (start n : ℕ) → YieldsThen Carries s xs None u → start + length xs ≤ n
    → numbered_from start (still_carried s) n ≡ None
walk_none s u [] start n y l = numbered_none start n _ (ap still_carried y.1 ∙ y.2.0)
walk_none s u (x ∷ xs) start n y l =
    numbered_past start _ n _ _ _ y.1.1 refl (omega arith) ∙ walk_none y.1.0 u xs (start + 1) n (y.0, y.1.2, y.2) (omega arith)

-- and else to the message that stands behind those that were passed
pub walk_some : (s u : Carried) (xs : List (Bor (List ℕ))) (start n : ℕ) (m : Bor (List ℕ)) → YieldsThen Carries s xs (Some m) u → n ≡ start + length xs
    → numbered_from start (still_carried s) n ≡ Some m.now
walk_some s u [] start n m y l = numbered_here start n _ _ _ (ap still_carried y.1 ∙ y.2) (omega arith)
walk_some s u (x ∷ xs) start n m y l =
    numbered_past start _ n _ _ _ y.1.1 refl (omega arith) ∙ walk_some y.1.0 u xs (start + 1) n m (y.0, y.1.2, y.2) (omega arith)

-- later numbers stand behind that
pub walk_onward : (s u : Carried) (xs : List (Bor (List ℕ))) (start n k : ℕ) (m : Bor (List ℕ)) → YieldsThen Carries s xs (Some m) u → n ≡ start + length xs → n < k
    → numbered_from (n + 1) (still_carried u) k ≡ numbered_from start (still_carried s) k
walk_onward s u [] start n k m y l past = sym (numbered_past start (n + 1) k _ _ _ (ap still_carried y.1 ∙ y.2) (omega arith) (omega arith))
walk_onward s u (x ∷ xs) start n k m y l past =
    walk_onward y.1.0 u xs (start + 1) n k m (y.0, y.1.2, y.2) (omega arith) past ∙ sym (numbered_past start _ k _ _ _ y.1.1 refl (omega arith))

-- what is held has 5 to 80 bytes
pub served_sized : (s n : ℕ) (c : Carried) → Sized (served_from s (still_carried c) n)
served_sized s n c =
    cond_both (leb n most32) _ _ Sized (λ _. numbered_sized s n (still_carried c) (carried_sized (rest_of c.messages))) (λ _. tt)

-- a place behind a later one is behind the first
pub agrees_onward : (first later : Place) (o : Option (Bor (List ℕ) × Place)) → Agrees first later → IfSome o (λ f. Agrees later f.1) → IfSome o (λ f. Agrees first f.1)
agrees_onward first later None a b = tt
agrees_onward first later (Some f) a b = (omega (arith, a.0, b.0), λ n past. b.1 n past ∙ a.1 n (omega (arith, b.0)))
