-- What is read as a decimal number.
use Rattle.std.proofs.Common.{◌≡◌, ◌≢◌, ℕ, ◌<◌, ◌^◌, Bool, true, false, cond, List, length, get_or, Some, None, Ok, Err, Result, sym, refl, rules}
use Rattle.std.proofs.lemmas.Str.Parse.{IsNumeralModel, numerals_by_fold, parse_plain}
use Rattle.std.specs.Result.{OkIff, result_ok}
use Rattle.std.specs.Str.{all_ascii_digits}
use Rattle.std.specs.Str.Parse.{ParsesUnsigned}
use Rattle.scripts.specs.Words.{read_on, is_decimal, decimal_in}

own : IsNumeralModel (λ ds. all_ascii_digits ds ≡ true) (read_on 0)
own = numerals_by_fold _ (search rules) read_on (search rules)

none_where : (b : Bool) (n : ℕ) → (b ≡ true → ⊥) → cond b (Some n) None ≡ None
none_where true n absent = absurd (absent refl)
none_where false n absent = refl

decided : {E : Type 0} (word : List ℕ) (r : Result ℕ E) → OkIff r ((all_ascii_digits word ≡ true) × (0 < length word) × (read_on 0 word < 2 ^ 64)) (read_on 0 word) → result_ok r ≡ decimal_in word
decided word (Ok x) h = search rules
decided word (Err e) absent = sym (none_where (is_decimal word) (read_on 0 word) (λ t. absent (search rules)))

pub parsed : {E : Type 0} (word : List ℕ) (r : Result ℕ E) → get_or word 0 0 ≢ 43 → ParsesUnsigned 64 10 word r → result_ok r ≡ decimal_in word
parsed word r unsigned h = decided word r (parse_plain own 64 word r h unsigned)
