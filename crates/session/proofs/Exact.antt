-- Number fields: ten bytes that read as a number are the field that is written for it.
use Rattle.std.proofs.Common.{◌≡◌, ℕ, suc, ◌+◌, ◌-◌, ◌/◌, ◌%◌, ◌<◌, ◌≤◌, eqb, List, [], ◌∷◌, ◌++◌, length, replicate, Some, None, decimal, Option, sym, refl, ap, ◌∙◌, ⊎_elim, arith}
use Rattle.std.proofs.lemmas.Fmt.{decimal_digit, decimal_step, length-decimal-le}
use Rattle.std.proofs.lemmas.List.{append_assoc, append-nil, length-append, length-replicate}
use Rattle.std.proofs.lemmas.Bool.{cond-true, cond-false, eqb-true, eqb-false, cases_Bool}
use Rattle.std.proofs.lemmas.Bool.Decides.{nat_tests}
use Rattle.std.proofs.lemmas.Option.{none-some}
use Rattle.wire.specs.Numbers.{most32}
use Rattle.session.specs.Fields.{unpadded, one_more, digits_after, zero_alone, numeral, number_of, number_field}
use Rattle.session.proofs.Digits.{after}

-- it is ten bytes long
pub field_length : (n : ℕ) → n ≤ most32 → length (number_field n) ≡ 10
field_length n h =
    let short = length-decimal-le 10 n (omega arith) (omega arith) (omega arith) in
    simp (length-append, length-replicate) (omega arith)

-- spaces, and what stands behind them
padded : (xs : List ℕ) → (k : ℕ) × (xs ≡ replicate k 32 ++ unpadded xs)
padded [] = (0, refl)
padded (b ∷ bs) =
    ⊎_elim
    (λ e. (
      suc (padded bs).0,
      ap (λ x. x ∷ bs) (eqb-true b 32 e) ∙ ap (λ r. 32 ∷ r) (padded bs).1
          ∙ ap (λ u. 32 ∷ (replicate (padded bs).0 32 ++ u)) (sym (cond-true _ _ _ e)),
    ))
    (λ e. (0, sym (cond-false _ _ _ e)))
    (cases_Bool (eqb b 32))

-- digits that say a number within the limit are what it is written as
abbrev Says : List ℕ → ℕ → Type 0
Says ds n = (ds ≡ decimal n) × (n ≤ most32)

one_digit : (b w : ℕ) → one_more 0 b ≡ Some w → Says (b ∷ []) w
one_digit b w e =
    let low : w < 10 = grind (arith, nat_tests) in
    let same : b ≡ 48 + w = grind (arith, nat_tests) in
    (ap (λ d. d ∷ []) same ∙ sym (decimal_digit w low), omega arith)

digit_more : (ds : List ℕ) (v b w : ℕ) → 0 < v → Says ds v → one_more v b ≡ Some w → Says (ds ++ b ∷ []) w
digit_more ds v b w some says e =
    let within : w ≤ most32 = grind (arith, nat_tests) in
    let front : v ≡ w / 10 = grind (arith, nat_tests) in
    let last : b ≡ 48 + w % 10 = grind (arith, nat_tests) in (
      ap (λ r. r ++ b ∷ []) says.0 ∙ ap (λ m. decimal m ++ b ∷ []) front ∙ ap (λ d. decimal (w / 10) ++ d ∷ []) last
          ∙ sym (decimal_step w (omega arith) (omega arith)),
      within,
    )

-- one digit and those behind it, after the digits of v
digit_then : (o : Option ℕ) (ds bs : List ℕ) (v b n : ℕ) → 0 < v → Says ds v → o ≡ one_more v b
    → ((w : ℕ) → 0 < w → Says (ds ++ b ∷ []) w → digits_after w bs ≡ Some n → Says ((ds ++ b ∷ []) ++ bs) n)
    → after bs o ≡ Some n → Says (ds ++ b ∷ bs) n
digit_then None ds bs v b n some says e rest h = absurd (none-some n h)
digit_then (Some w) ds bs v b n some says e rest h =
    let more : 0 < w = grind (arith, nat_tests) in
    let all = rest w more (digit_more ds v b w some says (sym e)) h in
    (sym (append_assoc ds (b ∷ []) bs) ∙ all.0, all.1)

digits_say : (ds bs : List ℕ) (v n : ℕ) → 0 < v → Says ds v → digits_after v bs ≡ Some n → Says (ds ++ bs) n
digits_say ds [] v n some says e =
    let same : v ≡ n = cc in
    (append-nil ds ∙ says.0 ∙ ap decimal same, omega (arith, says.1))
digits_say ds (b ∷ bs) v n some says e =
    digit_then (one_more v b) ds bs v b n some says refl (λ w more now h. digits_say (ds ++ b ∷ []) bs w n more now h) e

first_then : (o : Option ℕ) (b : ℕ) (bs : List ℕ) (n : ℕ) → (b ≡ 48 → ⊥) → o ≡ one_more 0 b → after bs o ≡ Some n → Says (b ∷ bs) n
first_then None b bs n ne e h = absurd (none-some n h)
first_then (Some w) b bs n ne e h =
    let some : 0 < w = grind (arith, nat_tests) in
    digits_say (b ∷ []) bs w n some (one_digit b w (sym e)) h

zero_says : (b : ℕ) (bs : List ℕ) (n : ℕ) → b ≡ 48 → zero_alone bs ≡ Some n → Says (b ∷ bs) n
zero_says b [] n z e =
    let same : 0 ≡ n = cc in
    (ap (λ d. d ∷ []) z ∙ sym (decimal_digit 0 (omega arith)) ∙ ap decimal same, omega arith)
zero_says b (x ∷ bs) n z e = absurd (none-some n e)

numeral_says : (ds : List ℕ) (n : ℕ) → numeral ds ≡ Some n → Says ds n
numeral_says [] n e = absurd (none-some n e)
numeral_says (b ∷ bs) n e =
    ⊎_elim
    (λ t. zero_says b bs n (eqb-true b 48 t) (sym (cond-true _ _ _ t) ∙ e))
    (λ f. first_then (one_more 0 b) b bs n (eqb-false b 48 f) refl (sym (cond-false _ _ _ f) ∙ e))
    (cases_Bool (eqb b 48))

-- the number of a field is within the limit
pub number_within : (field : List ℕ) (n : ℕ) → number_of field ≡ Some n → n ≤ most32
unfolding number_of
number_within field n e = (numeral_says (unpadded field) n e).1

-- and ten bytes that say it are its field
pub field_exact : (field : List ℕ) (n : ℕ) → length field ≡ 10 → number_of field ≡ Some n → field ≡ number_field n
unfolding number_of
field_exact field n ten e =
    let k = (padded field).0 in
    let split : field ≡ replicate k 32 ++ decimal n = (padded field).1 ∙ ap (λ r. replicate k 32 ++ r) (numeral_says (unpadded field) n e).0 in
    let count : k ≡ 10 - length (decimal n) = omega (arith, ten, simp (length-append, length-replicate) at (ap length split)) in
    split ∙ ap (λ m. replicate m 32 ++ decimal n) count
