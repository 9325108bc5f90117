-- What a shift of slots leaves in the first of them, as lists.
use Rattle.std.proofs.Common.{◌≡◌, ℕ, zero, suc, ◌+◌, ◌-◌, ◌<◌, ◌≤◌, List, [], ◌∷◌, ◌++◌, length, take, drop, set, sym, refl, ap, ◌∙◌, append_assoc, arith}
use lib.Seq.{paste}
use Rattle.std.specs.List.{insert}
use Rattle.std.proofs.lemmas.List.Edits.{take-paste}
use Rattle.std.proofs.lemmas.List.{drop-take, length-drop, length-take-le, set-append_left, take_more_set, take-take}

pub take_set_in : {X : Type 0} (n : ℕ) (xs : List X) (i : ℕ) (e : X) → take n (set xs i e) ≡ set (take n xs) i e
take_set_in zero xs i e = refl
take_set_in (suc n) [] i e = refl
take_set_in (suc n) (x ∷ xs) zero e = refl
take_set_in {X = X} (suc n) (x ∷ xs) (suc i) e = ap (λ (t : List X). x ∷ t) (take_set_in n xs i e)

module _ {X : Type 0} (old : List X) (used : ℕ) where
  rest : (i : ℕ) → i ≤ used → take (used - i) (drop i old) ≡ drop i (take used old)
  rest i l = let e : i + (used - i) ≡ used = omega arith in sym (drop-take i (used - i) old) ∙ ap (λ n. drop i (take n old)) e

  -- the rows from i to j cut out
  pub closed : (new : List X) (i j : ℕ) → i ≤ j → j ≤ used → used ≤ length old → new ≡ paste old i (drop j old) (used - j) → take (used - (j - i)) new ≡ take i (take used old) ++ drop j (take used old)
  closed new i j l m n is =
      let e : used - (j - i) ≡ i + (used - j) = omega arith in
      let s : used - j ≤ length (drop j old) = simp length-drop (omega arith) in
      ap (take (used - (j - i))) is ∙ rw e (take-paste old i (drop j old) (used - j) (omega arith) s ∙ ap (λ (t : List X). take i old ++ t) (rest j m) ∙ ap (λ (t : List X). t ++ drop j (take used old)) (sym (take-take i used old (omega arith))))

  -- e put in at i
  pub opened : (new : List X) (i : ℕ) (e : X) → i ≤ used → used < length old → new ≡ paste old (i + 1) (drop i old) (used - i) → take (used + 1) (set new i e) ≡ insert (take used old) i e
  opened new i e l n is =
      let long : used + 1 ≡ (i + 1) + (used - i) = omega arith in
      let s : used - i ≤ length (drop i old) = simp length-drop (omega arith) in
      let front : length (take (i + 1) old) ≡ i + 1 = length-take-le (i + 1) old (omega arith) in
      ap (λ (t : List X). take (used + 1) (set t i e)) is
      ∙ take_set_in (used + 1) (paste old (i + 1) (drop i old) (used - i)) i e
      ∙ ap (λ m. set (take m (paste old (i + 1) (drop i old) (used - i))) i e) long
      ∙ ap (λ (t : List X). set t i e) (take-paste old (i + 1) (drop i old) (used - i) (omega arith) s)
      ∙ set-append_left (take (i + 1) old) (take (used - i) (drop i old)) i e (omega arith)
      ∙ ap (λ (t : List X). t ++ take (used - i) (drop i old)) (sym (take_set_in (i + 1) old i e) ∙ take_more_set old i e (omega arith))
      ∙ append_assoc (take i old) (e ∷ []) (take (used - i) (drop i old))
      ∙ ap (λ (t : List X). take i old ++ e ∷ t) (rest i l)
      ∙ ap (λ (t : List X). t ++ e ∷ drop i (take used old)) (sym (take-take i used old l))
