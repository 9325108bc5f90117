-- The sources of the worked histories hold nothing but the trading day's messages.
use Rattle.std.proofs.Common.{◌≡◌, ℕ, ◌+◌, Bool, true, false, cond, eqb, List, [], ◌∷◌, ◌++◌, Some, None, Option, sym, refl, ◌∙◌, subst, eqb-true}
use Rattle.source.specs.Meanings.{numbered_from}
use Rattle.source.specs.Pairs.{either}
use Rattle.following.specs.Days.{message_of, SourceBelongs}
use Rattle.worked_histories.specs.Histories.{room, first_source, second_source, pair, trading_day, m4, m5, m6, m7, m8}

-- messages are numbered as they are without more behind them
longer : (ms more : List (List ℕ)) (s k : ℕ) (m : List ℕ) → numbered_from s ms k ≡ Some m → numbered_from s (ms ++ more) k ≡ Some m
unfolding numbered_from
longer [] more s k m e = absurd cc
longer (x ∷ ms) more s k m e = go (eqb k s) (longer ms more (s + 1) k m) e
  where
    go : (t : Bool) → (numbered_from (s + 1) ms k ≡ Some m → numbered_from (s + 1) (ms ++ more) k ≡ Some m) → cond t (Some x) (numbered_from (s + 1) ms k) ≡ Some m → cond t (Some x) (numbered_from (s + 1) (ms ++ more) k) ≡ Some m
    go true ih e' = e'
    go false ih e' = ih e'

from_first : (k : ℕ) (m : List ℕ) → first_source.held k ≡ Some m → message_of trading_day k ≡ Some m
from_first k m e = longer _ (m4 ∷ m5 ∷ m6 ∷ m7 ∷ m8 ∷ []) 1 k m e

from_second : (k : ℕ) (m : List ℕ) → second_source.held k ≡ Some m → message_of trading_day k ≡ Some m
unfolding numbered_from
from_second k m e = go (eqb k 4) refl e
  where
    go : (t : Bool) → eqb k 4 ≡ t → cond t (Some m4) None ≡ Some m → message_of trading_day k ≡ Some m
    go true q e' = let P : ℕ → Type 0 = λ n. message_of trading_day n ≡ Some m in subst P (sym (eqb-true k 4 q)) e'
    go false q e' = absurd cc

from_either :
    (k : ℕ) (m : List ℕ) (o : Option (List ℕ)) → first_source.held k ≡ o → either true o (second_source.held k) ≡ Some m
    → message_of trading_day k ≡ Some m
from_either k m None q e = from_second k m e
from_either k m (Some x) q e = from_first k m (q ∙ e)

pub first_belongs : SourceBelongs room trading_day first_source
first_belongs = (refl, from_first)

pub pair_belongs : SourceBelongs room trading_day pair
pair_belongs = (refl, λ k m e. from_either k m (first_source.held k) refl e)
