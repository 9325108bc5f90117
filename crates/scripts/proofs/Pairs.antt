-- One pair of digits more.
use Rattle.std.proofs.Common.{◌≡◌, ℕ, ◌<◌, ◌≤◌, List, [], ◌∷◌, ◌++◌, length, get_or, drop, Some, None, Option, ◌==◌, sym, refl, ap, arith}
use Rattle.std.proofs.lemmas.List.{append-nil, append_assoc}
use Rattle.std.specs.Bool.{then_some}
use Rattle.std.specs.Option.{option_map}
use Rattle.scripts.specs.Hex.{digit_of, pair_of, bytes_of}

-- what is read, before what is left
abbrev pub before : List ℕ → Option (List ℕ) → Option (List ℕ)
before bs o = option_map (λ more. bs ++ more) o

abbrev go : Option (List ℕ) → Option ℕ → Option (List ℕ)
go rest None = None
go rest (Some b) = option_map (λ bs. b ∷ bs) rest

pub pair_step : (text : List ℕ) (o : Option ℕ) → 2 ≤ length text → o ≡ pair_of (digit_of (get_or text 0 0)) (digit_of (get_or text 1 0)) → bytes_of text ≡ go (bytes_of (drop 2 text)) o
unfolding bytes_of
pair_step [] o h e = absurd (omega arith)
pair_step (c ∷ []) o h e = absurd (omega arith)
pair_step (c ∷ d ∷ rest) o h e = ap (go (bytes_of rest)) (sym e)

-- behind the last pair: all is read, or a digit is left over
pub at_end : {V : Type 0} (items : V → List ℕ) (v : V) (text : List ℕ) → length text < 2 → option_map items (then_some (length text == 0) v) ≡ before (items v) (bytes_of text)
unfolding bytes_of
at_end items v [] h = ap Some (sym (append-nil (items v)))
at_end items v (c ∷ []) h = refl
at_end items v (c ∷ d ∷ rest) h = absurd (omega arith)

pub before_push : (bs : List ℕ) (b : ℕ) (o : Option (List ℕ)) → before (bs ++ b ∷ []) o ≡ before bs (option_map (λ more. b ∷ more) o)
before_push bs b None = refl
before_push bs b (Some more) = ap Some (append_assoc bs (b ∷ []) more)
