-- Answers told in other words.
use Rattle.std.specs.Prelude.{Ok, Err, Result}

-- what is answered, in other words
abbrev pub through : {X Y E : Type 0} → (X → Y) → Result X E → Result Y E
through f (Ok x) = Ok (f x)
through f (Err e) = Err e
