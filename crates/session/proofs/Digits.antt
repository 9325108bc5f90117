-- Number fields: one byte more, and that what is written reads back.
use Rattle.std.proofs.Common.{◌≡◌, ℕ, zero, suc, ◌+◌, ◌-◌, ◌/◌, ◌%◌, ◌^◌, ◌<◌, ◌≤◌, List, [], ◌∷◌, ◌++◌, length, get_or, take, drop, set, replicate, ◌==◌, not, Some, None, decimal, Option, sym, refl, ap, ◌∙◌, subst, ⊎_elim, add-one, arith, MatchOption, Bor, Iter}
use Rattle.std.specs.Iterator.{Yields}
use Rattle.std.specs.List.{position, position_or_len, FoldsTo}
use Rattle.std.specs.Slice.Iter.{iter_steps, iter_rest}
use Rattle.std.proofs.lemmas.Option.{cond_some}
use Rattle.std.proofs.lemmas.Fmt.{decimal_digit, decimal_step, decimal_by_steps, first_decimal, decimal_nonempty, length-decimal-le}
use Rattle.std.proofs.lemmas.List.{append_assoc, length-set, length-append, length-drop, take-take, take-replicate, take-set, drop-set, set_split, take_rest, drop_all}
use Rattle.std.proofs.lemmas.Bool.{cond-true, cond-false, ne_eqb, cases_Bool}
use Rattle.std.proofs.lemmas.Bool.Decides.{nat_tests}
use Rattle.wire.specs.Numbers.{most32}
use Rattle.session.specs.Fields.{unpadded, one_more, digits_after, numeral, number_of, number_field}

-- what stands behind the spaces in front
unpadded_from : (xs : List ℕ) → unpadded xs ≡ drop (position_or_len (λ b. not (b == 32)) xs) xs
unpadded_from [] = refl
unpadded_from (b ∷ bs) =
    let n = position_or_len (λ b. not (b == 32)) bs in
    ⊎_elim
    (λ t. let more : suc n ≡ 1 + n = omega arith in
    cond-true _ _ _ t ∙ unpadded_from bs ∙ ap (λ m. drop m (b ∷ bs)) more ∙ sym (ap (λ m. drop m (b ∷ bs)) (cond-true (not (not (b == 32))) (1 + n) 0 (ap (λ v. not (not v)) t))))
    (λ f. cond-false _ _ _ f ∙ sym (ap (λ m. drop m (b ∷ bs)) (cond-false (not (not (b == 32))) (1 + n) 0 (ap (λ v. not (not v)) f))))
    (cases_Bool (b == 32))

-- the number behind the spaces, where they end
behind : (xs : List ℕ) (i : ℕ) → i ≡ position_or_len (λ b. not (b == 32)) xs → numeral (take (length xs - i) (drop i xs)) ≡ number_of xs
unfolding number_of
behind xs i e = ap numeral (take_rest xs i ∙ ap (λ j. drop j xs) e ∙ sym (unpadded_from xs))

pub number_behind : (xs : List ℕ) (i : ℕ) → position (λ b. not (b == 32)) xs ≡ Some i → numeral (take (length xs - i) (drop i xs)) ≡ number_of xs
number_behind xs i e = behind xs i (sym (cond_some _ _ _ e).1)

pub all_spaces : (xs : List ℕ) → position (λ b. not (b == 32)) xs ≡ None → number_of xs ≡ None
unfolding number_of
all_spaces xs e =
    let n = position_or_len (λ b. not (b == 32)) xs in
    let long : length xs ≤ n = grind (arith, nat_tests) in
    ap numeral (unpadded_from xs ∙ drop_all n xs long)

-- one digit more
abbrev pub after : List ℕ → Option ℕ → Option ℕ
after bs o = elim o [ None ↦ None | Some w ↦ digits_after w bs ]

no_digits : (xs : List ℕ) → length xs ≡ 0 → xs ≡ []
no_digits [] e = refl
no_digits (x ∷ xs) e = absurd (omega arith)

-- a fold over the digits
module _ {F : Type 0} (turn : F × ℕ → Bor ℕ → F × ℕ → Type 0) (adds : (p q : F × ℕ) (x : Bor ℕ) → turn p x q → Some q.1 ≡ one_more p.1 x.now) where
  folded : (xs : List (Bor ℕ)) (s t : Iter ℕ) (p q : F × ℕ) → Yields iter_steps s xs t → FoldsTo turn p xs q → digits_after p.1 (iter_rest s) ≡ digits_after q.1 (iter_rest t)
  folded [] s t p q y w = ap (λ (z : F × ℕ). digits_after z.1 (iter_rest s)) w ∙ ap (λ (z : Iter ℕ). digits_after q.1 (iter_rest z)) y
  folded (x ∷ xs) s t p q y w =
      ap (digits_after p.1) y.1 ∙ sym (ap (after (iter_rest y.0)) (adds p w.0 x w.1)) ∙ folded xs y.0 t w.0 q y.2 w.2

  -- it comes to the value, or stops at a byte that gives none
  pub value_folded : (xs : List (Bor ℕ)) (s t u : Iter ℕ) (o : Option (Bor ℕ)) (p q : F × ℕ) (r : Option ℕ) (Stop : Bor ℕ → Type 0)
      → Yields iter_steps s xs t → iter_steps t o u → FoldsTo turn p xs q → MatchOption o (r ≡ Some q.1) Stop
      → ((x : Bor ℕ) → Stop x → (None ≡ one_more q.1 x.now) × (r ≡ None))
      → r ≡ digits_after p.1 (iter_rest s)
  value_folded xs s t u None p q r Stop y step w e stop =
      e ∙ sym (folded xs s t p q y w ∙ ap (digits_after q.1) (no_digits (iter_rest t) step.0))
  value_folded xs s t u (Some x) p q r Stop y step w e stop =
      (stop x e).1 ∙ sym (folded xs s t p q y w ∙ ap (digits_after q.1) step ∙ sym (ap (after (iter_rest u)) (stop x e).0))

-- a digit behind others
abbrev push : ℕ → Option ℕ → Option ℕ
push b None = None
push b (Some w) = one_more w b

push_after : (o : Option ℕ) (bs : List ℕ) (b : ℕ) → ((w : ℕ) → digits_after w (bs ++ b ∷ []) ≡ push b (digits_after w bs)) → after (bs ++ b ∷ []) o ≡ push b (after bs o)
push_after None bs b h = refl
push_after (Some w) bs b h = h w

after_none : (o : Option ℕ) → after [] o ≡ o
after_none None = refl
after_none (Some w) = refl

digits_push : (v : ℕ) (bs : List ℕ) (b : ℕ) → digits_after v (bs ++ b ∷ []) ≡ push b (digits_after v bs)
digits_push v [] b = after_none (one_more v b)
digits_push v (x ∷ bs) b = push_after (one_more v x) bs b (λ w. digits_push w bs b)

-- the digits of a number say it
digits_decimal : (n : ℕ) → n < 2 ^ 64 → n ≤ most32 → digits_after 0 (decimal n) ≡ Some n
digits_decimal =
    decimal_by_steps (λ n ds. n ≤ most32 → digits_after 0 ds ≡ Some n)
    (λ n small h. let e : one_more 0 (48 + n) ≡ Some n = grind (arith, nat_tests) in ap (after []) e)
    (λ n ds big h l.
    let e : one_more (n / 10) (48 + n % 10) ≡ Some n = grind (arith, nat_tests) in
    digits_push 0 ds (48 + n % 10) ∙ ap (push (48 + n % 10)) (h (omega arith)) ∙ e)

numeral_over : (ds : List ℕ) → 48 < get_or ds 0 0 → numeral ds ≡ digits_after 0 ds
numeral_over [] h = absurd (omega arith)
numeral_over (d ∷ ds) h = let ne : d ≡ 48 → ⊥ = λ e. omega arith in cond-false _ _ _ (ne_eqb d 48 ne)

numeral_decimal : (n : ℕ) → n ≤ most32 → numeral (decimal n) ≡ Some n
numeral_decimal zero h = ap numeral (decimal_digit 0 (omega arith))
numeral_decimal (suc n) h = numeral_over (decimal (suc n)) (first_decimal (suc n) (omega arith) (omega arith)) ∙ digits_decimal (suc n) (omega arith) h

-- spaces in front of what begins with none
unpadded_over : (ds : List ℕ) → 32 < get_or ds 0 0 → unpadded ds ≡ ds
unpadded_over [] h = absurd (omega arith)
unpadded_over (d ∷ ds) h = let ne : d ≡ 32 → ⊥ = λ e. omega arith in cond-false _ _ _ (ne_eqb d 32 ne)

unpadded_spaces : (k : ℕ) (ds : List ℕ) → unpadded (replicate k 32 ++ ds) ≡ unpadded ds
unpadded_spaces zero ds = refl
unpadded_spaces (suc k) ds = unpadded_spaces k ds

first_digit : (n : ℕ) → n ≤ most32 → 32 < get_or (decimal n) 0 0
first_digit zero h = omega (arith, ap (λ ds. get_or ds 0 0) (decimal_digit 0 (omega arith)))
first_digit (suc n) h = omega (arith, first_decimal (suc n) (omega arith) (omega arith))

pub reads_back : (n : ℕ) → n ≤ most32 → number_of (number_field n) ≡ Some n
unfolding number_of
reads_back n h =
    ap numeral (unpadded_spaces (10 - length (decimal n)) (decimal n) ∙ unpadded_over (decimal n) (first_digit n h)) ∙ numeral_decimal n h

-- The field while it is written: the digits of what is left, and behind them those that stand already.
pub record Writing (n left at : ℕ) (field : List ℕ) : Type 0 where
  pub joined : decimal left ++ drop (at + 1) field ≡ decimal n
  pub blank : take (at + 1) field ≡ replicate (at + 1) 32
  pub inside : at ≤ 9
  pub ten : length field ≡ 10
  pub few : left ≤ most32

module _ (n left at : ℕ) (field : List ℕ) (small : n ≤ most32) (w : Writing n left at field) where
  lengths : length (decimal left) + (9 - at) ≡ length (decimal n)
  lengths = omega (arith, simp (length-append, length-drop) at (ap length w.joined))

  before : take at field ≡ replicate at 32
  before = sym (take-take at (at + 1) field (omega arith)) ∙ ap (take at) w.blank ∙ take-replicate at (at + 1) 32 (omega arith)

  pub room : 10 ≤ left → 1 ≤ at
  room big =
      let step = ap length (decimal_step left big (omega arith)) ∙ length-append (decimal (left / 10)) _ in
      let some = decimal_nonempty (left / 10) (omega arith) in
      omega (arith, lengths, step, some, length-decimal-le 10 n (omega arith) (omega arith) (omega arith))

  one_digit : 10 ≤ left → decimal (left / 10) ++ drop at (set field at (48 + left % 10)) ≡ decimal n
  one_digit big =
      ap (λ r. decimal (left / 10) ++ r) (drop-set field at (48 + left % 10) (omega arith))
      ∙ sym (append_assoc (decimal (left / 10)) ((48 + left % 10) ∷ []) (drop (at + 1) field))
      ∙ sym (ap (λ r. r ++ drop (at + 1) field) (decimal_step left big (omega arith))) ∙ w.joined

  pub writing_on : 10 ≤ left → Writing n (left / 10) (at - 1) (set field at (48 + left % 10))
  writing_on big =
      let d = 48 + left % 10 in
      let one = room big in
      let e : at ≡ at - 1 + 1 = omega arith in
      record {
        joined = subst (λ k. decimal (left / 10) ++ drop k (set field at d) ≡ decimal n) e (one_digit big);
        blank = subst (λ k. take k (set field at d) ≡ replicate k 32) e (take-set field at d ∙ before);
        inside = omega (arith, w.inside);
        ten = length-set field at d ∙ w.ten;
        few = omega (arith, w.few);
      }

  pub written : left < 10 → set field at (48 + left % 10) ≡ number_field n
  written low =
      let last : left % 10 ≡ left = omega arith in
      let one = decimal_digit left low in
      let count : at ≡ 10 - length (decimal n) = omega (arith, lengths, ap length one) in
      ap (λ d. set field at (48 + d)) last ∙ set_split field at (48 + left) (omega arith) ∙ ap (λ r. r ++ (48 + left) ∷ drop (suc at) field) before
      ∙ ap (λ k. replicate at 32 ++ (48 + left) ∷ drop k field) (sym (add-one at))
      ∙ ap (λ r. replicate at 32 ++ r) (sym (ap (λ r. r ++ drop (at + 1) field) one) ∙ w.joined)
      ∙ ap (λ k. replicate k 32 ++ decimal n) count
