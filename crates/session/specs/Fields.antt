-- Number fields: ten bytes of spaces and then digits.
use Rattle.std.specs.Prelude.{ℕ, ◌+◌, ◌-◌, ◌*◌, cond, ◌&&◌, List, [], ◌∷◌, ◌++◌, length, replicate, Some, None, decimal, Option, ◌==◌, nat_le}
use Rattle.wire.specs.Numbers.{most32}

-- without the spaces in front
abbrev pub unpadded : List ℕ → List ℕ
unpadded [] = []
unpadded (b ∷ bs) = cond (b == 32) (unpadded bs) (b ∷ bs)

-- one digit more behind the digits of v, within the limit
abbrev pub one_more : ℕ → ℕ → Option ℕ
one_more v b = cond (nat_le 48 b && nat_le b 57 && nat_le (v * 10 + (b - 48)) most32) (Some (v * 10 + (b - 48))) None

abbrev pub digits_after : ℕ → List ℕ → Option ℕ
digits_after v [] = Some v
digits_after v (b ∷ bs) = elim (one_more v b) [ None ↦ None | Some w ↦ digits_after w bs ]

-- one or more digits without a leading zero; 0 alone is allowed
abbrev pub zero_alone : List ℕ → Option ℕ
zero_alone [] = Some 0
zero_alone (b ∷ bs) = None

abbrev pub numeral : List ℕ → Option ℕ
numeral [] = None
numeral (b ∷ bs) = cond (b == 48) (zero_alone bs) (digits_after 0 (b ∷ bs))

-- the number that a field says
unfoldable pub number_of : List ℕ → Option ℕ
number_of field = numeral (unpadded field)

-- the field that says a number: its decimal digits, right-justified in ten places
abbrev pub number_field : ℕ → List ℕ
number_field n = replicate (10 - length (decimal n)) 32 ++ decimal n
