-- Messages under their numbers.
use Rattle.std.proofs.Common.{◌≡◌, ℕ, ◌+◌, ◌<◌, eqb, List, [], ◌∷◌, Some, None, sym, refl, ap, ◌∙◌, arith}
use Rattle.std.proofs.lemmas.Bool.{cond-true, cond-false, cond_both, eq-eqb, ne_eqb}
use Rattle.std.specs.List.{AllByRecursion as All}
use Rattle.source.specs.Meanings.{numbered_from, Sized}

-- a number below the first is not there
pub numbered_below : (s n : ℕ) (ms : List (List ℕ)) → n < s → numbered_from s ms n ≡ None
unfolding numbered_from
numbered_below s n [] l = refl
numbered_below s n (m ∷ ms) l = cond-false _ _ _ (ne_eqb n s (λ h. omega arith)) ∙ numbered_below (s + 1) n ms (omega arith)

pub numbered_none : (s n : ℕ) (ms : List (List ℕ)) → ms ≡ [] → numbered_from s ms n ≡ None
unfolding numbered_from
numbered_none s n ms e = ap (λ l. numbered_from s l n) e

pub numbered_here : (s n : ℕ) (all ms : List (List ℕ)) (m : List ℕ) → all ≡ m ∷ ms → s ≡ n → numbered_from s all n ≡ Some m
unfolding numbered_from
numbered_here s n all ms m e h = ap (λ l. numbered_from s l n) e ∙ cond-true _ _ _ (eq-eqb n s (sym h))

pub numbered_past : (s t n : ℕ) (all ms : List (List ℕ)) (m : List ℕ) → all ≡ m ∷ ms → t ≡ s + 1 → s < n → numbered_from s all n ≡ numbered_from t ms n
unfolding numbered_from
numbered_past s t n all ms m e f h =
    ap (λ l. numbered_from s l n) e ∙ cond-false _ _ _ (ne_eqb n s (λ x. omega arith)) ∙ ap (λ j. numbered_from j ms n) (sym f)

-- where each message has 5 to 80 bytes, the one with a number has
pub numbered_sized : (s n : ℕ) (ms : List (List ℕ)) → All (λ m. Sized (Some m)) ms → Sized (numbered_from s ms n)
unfolding numbered_from
numbered_sized s n [] all = tt
numbered_sized s n (m ∷ ms) all = cond_both (eqb n s) (Some m) (numbered_from (s + 1) ms n) Sized (λ _. all.0) (λ _. numbered_sized (s + 1) n ms all.1)
