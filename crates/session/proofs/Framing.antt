-- One message more of a session.
use Rattle.std.proofs.Common.{◌≡◌, ℕ, zero, suc, ◌+◌, ◌≤◌, false, cond, ◌||◌, eqb, ◌==◌, List, [], ◌∷◌, length, drop, Some, None, Option, sym, refl, ap, ◌∙◌, ⊎_elim, arith}
use Rattle.std.proofs.lemmas.Bool.{cond-true, cond-false, cases_Bool}
use Rattle.std.proofs.lemmas.List.{length-drop}
use Rattle.std.proofs.lemmas.Bool.Decides.{nat_tests}
use Rattle.session.specs.Sessions.{Framed, session_length, first_of, framed_within, session_messages, told, login_accepted, opening}

-- what follows from the length in front, by the messages behind the first
abbrev pub by : (List ℕ → List Framed) → List ℕ → Option ℕ → List Framed
by rest bytes None = []
by rest bytes (Some k) = first_of k bytes ∷ rest (drop (2 + k) bytes)

no_bytes : (bytes : List ℕ) → length bytes ≤ 0 → None ≡ session_length bytes
no_bytes bytes h = grind (arith, nat_tests)

by_same : (f g : List ℕ → List Framed) (bytes : List ℕ) (o : Option ℕ) → ((k : ℕ) → f (drop (2 + k) bytes) ≡ g (drop (2 + k) bytes)) → by f bytes o ≡ by g bytes o
by_same f g bytes None h = refl
by_same f g bytes (Some k) h = ap (λ ms. first_of k bytes ∷ ms) (h k)

shorter : (n k : ℕ) (bytes : List ℕ) → length bytes ≤ suc n → length (drop (2 + k) bytes) ≤ n
shorter n k bytes h = let l = length-drop (2 + k) bytes in omega arith

-- more turns than bytes change nothing
enough : (f g : ℕ) (bytes : List ℕ) → length bytes ≤ f → length bytes ≤ g → framed_within f bytes ≡ framed_within g bytes
unfolding framed_within
enough zero zero bytes h i = refl
enough zero (suc g) bytes h i = ap (by (framed_within g) bytes) (no_bytes bytes h)
enough (suc f) zero bytes h i = sym (ap (by (framed_within f) bytes) (no_bytes bytes i))
enough (suc f) (suc g) bytes h i =
    by_same (framed_within f) (framed_within g) bytes (session_length bytes) (λ k. enough f g (drop (2 + k) bytes) (shorter f k bytes h) (shorter g k bytes i))

within_step : (n : ℕ) (bytes : List ℕ) → length bytes ≤ n → framed_within n bytes ≡ by session_messages bytes (session_length bytes)
unfolding framed_within session_messages
within_step zero bytes h = ap (by session_messages bytes) (no_bytes bytes h)
within_step (suc n) bytes h =
    by_same (framed_within n) session_messages bytes (session_length bytes) (λ k. enough n (length (drop (2 + k) bytes)) (drop (2 + k) bytes) (shorter n k bytes h) (omega arith))

-- the first message and what follows it, by the length in front
pub session_step : (bytes : List ℕ) (o : Option ℕ) → o ≡ session_length bytes → session_messages bytes ≡ by session_messages bytes o
unfolding session_messages
session_step bytes o e = within_step (length bytes) bytes (omega arith) ∙ ap (by session_messages bytes) (sym e)

-- the first message that is told is not one that is skipped
pub told_first : (xs ms : List Framed) (m : Framed) → told xs ≡ m ∷ ms → (eqb m.letter 43 || eqb m.letter 72) ≡ false
told_first [] ms m e = absurd (cc)
told_first (x ∷ xs) ms m e =
    ⊎_elim (λ t. told_first xs ms m (sym (cond-true _ _ _ t) ∙ e)) (λ f. let h : x ∷ xs ≡ m ∷ ms = sym (cond-false _ _ _ f) ∙ e in cc)
    (cases_Bool (eqb x.letter 43 || eqb x.letter 72))

opening_told : (ms : List Framed) → opening ms ≡ opening (told ms)
unfolding opening
opening_told [] = refl
opening_told (m ∷ ms) =
    ⊎_elim (λ e. cond-true _ _ _ e ∙ opening_told ms ∙ sym (ap opening (cond-true _ _ _ e))) (λ e. sym (ap opening (cond-false _ _ _ e)))
    (cases_Bool (eqb m.letter 43 || eqb m.letter 72))

pub opening_none : (ms : List Framed) → told ms ≡ [] → opening ms ≡ None
unfolding opening
opening_none ms e = opening_told ms ∙ ap opening e

pub opening_on : (xs ms : List Framed) (m : Framed) → told xs ≡ m ∷ ms → opening xs ≡ cond (m.letter == 65) (login_accepted m.body ms) None
unfolding opening
opening_on xs ms m e = opening_told xs ∙ ap opening e ∙ cond-false _ _ _ (told_first xs ms m e)
