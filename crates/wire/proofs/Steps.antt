-- The messages that fill some bytes: the first and those behind it, and the walk over all of them.
use Rattle.std.proofs.Common.{◌≡◌, ℕ, zero, suc, ◌+◌, ◌≤◌, MatchOption, Bool, true, false, eqb, cond, List, [], ◌∷◌, length, take, drop, is_some, Some, None, Option, sym, refl, ap, ◌∙◌, arith, Bor}
use Rattle.std.proofs.lemmas.Bool.{cond-false, le-ltb}
use Rattle.std.specs.Option.{option_map}
use Rattle.wire.specs.Numbers.{most32}
use Rattle.wire.specs.Frames.{message_length, cut_at, split_message, skip_messages, unpacked, walked, rest}

-- what follows from the length in front
abbrev unpack : ℕ → List ℕ → Option ℕ → Option (List (List ℕ))
unpack n bytes None = None
unpack n bytes (Some k) = option_map (λ ms. take k (drop 2 bytes) ∷ ms) (unpacked n (drop (2 + k) bytes))

abbrev walk : ℕ → ℕ → List ℕ → Option ℕ → List (List ℕ)
walk n number bytes None = []
walk n number bytes (Some k) = take k (drop 2 bytes) ∷ walked n (number + 1) (drop (2 + k) bytes)

some_mapped : {X Y : Type 0} (f : X → Y) (o : Option X) → is_some (option_map f o) ≡ is_some o
some_mapped f None = refl
some_mapped f (Some x) = refl

some_cond : {X : Type 0} (b : Bool) (x : X) → is_some (cond b (Some x) None) ≡ b
some_cond true x = refl
some_cond false x = refl

given : {X : Type 0} (b : Bool) (x : X) → is_some (cond b (Some x) None) ≡ true → cond b (Some x) None ≡ Some x
given true x e = refl
given false x e = absurd (cc)

-- the messages fill the bytes where nothing is behind them
abbrev nothing : Option (List ℕ) → Bool
nothing None = false
nothing (Some r) = eqb (length r) 0

fills_step : (n : ℕ) (bytes : List ℕ) (o : Option ℕ) → ((k : ℕ) → is_some (unpacked n (drop (2 + k) bytes)) ≡ nothing (skip_messages n (drop (2 + k) bytes)))
    → is_some (unpack n bytes o) ≡ nothing (elim o [ None ↦ None | Some k ↦ skip_messages n (drop (2 + k) bytes) ])
fills_step n bytes None h = refl
fills_step n bytes (Some k) h = some_mapped _ (unpacked n (drop (2 + k) bytes)) ∙ h k

fills : (n : ℕ) (bytes : List ℕ) → is_some (unpacked n bytes) ≡ nothing (skip_messages n bytes)
unfolding unpacked skip_messages
fills zero bytes = some_cond (eqb (length bytes) 0) []
fills (suc n) bytes = fills_step n bytes (message_length bytes) (λ k. fills n (drop (2 + k) bytes))

pub filled : (n : ℕ) (bytes : List ℕ) (o : Option (Bor (List ℕ))) (b : Bool) (Tested : Bor (List ℕ) → Type 0) → option_map rest o ≡ skip_messages n bytes → MatchOption o (b ≡ false) Tested
    → ((r : Bor (List ℕ)) → Tested r → b ≡ eqb (length r.now) 0) → b ≡ is_some (unpacked n bytes)
filled n bytes None b Tested e m t = m ∙ sym (fills n bytes ∙ ap nothing (sym e))
filled n bytes (Some r) b Tested e m t = t r m ∙ sym (fills n bytes ∙ ap nothing (sym e))

-- the first message, and what is left behind it
front_of : (n : ℕ) (bytes : List ℕ) (o : Option ℕ) → o ≡ message_length bytes → is_some (unpack n bytes o) ≡ true
    → (k : ℕ) × (message_length bytes ≡ Some k) × (is_some (unpacked n (drop (2 + k) bytes)) ≡ true)
front_of n bytes None e h = absurd (cc)
front_of n bytes (Some k) e h = (k, sym e, sym (some_mapped _ (unpacked n (drop (2 + k) bytes))) ∙ h)

front : (n : ℕ) (bytes : List ℕ) → is_some (unpacked (suc n) bytes) ≡ true → (k : ℕ) × (message_length bytes ≡ Some k) × (is_some (unpacked n (drop (2 + k) bytes)) ≡ true)
unfolding unpacked
front n bytes h = front_of n bytes _ refl h

walked_front : (n number : ℕ) (bytes : List ℕ) (o : Option ℕ) → message_length bytes ≡ o → number ≤ most32 → walked (suc n) number bytes ≡ walk n number bytes o
unfolding walked
walked_front n number bytes o e h = cond-false _ _ _ (le-ltb most32 number h) ∙ ap (walk n number bytes) e

unpacked_front : (n : ℕ) (bytes : List ℕ) (o : Option ℕ) → message_length bytes ≡ o → unpacked (suc n) bytes ≡ unpack n bytes o
unfolding unpacked
unpacked_front n bytes o e = ap (unpack n bytes) e

pub walked_length : (n number : ℕ) (bytes : List ℕ) → number + n ≤ most32 + 1 → is_some (unpacked n bytes) ≡ true → length (walked n number bytes) ≡ n
unfolding walked
walked_length zero number bytes h e = refl
walked_length (suc n) number bytes h e =
    let f = front n bytes e in
    ap length (walked_front n number bytes _ f.1 (omega arith)) ∙ ap suc (walked_length n (number + 1) _ (omega arith) f.2)

-- where the messages fill the bytes, the walk gives them all
pub all_walked : (n number : ℕ) (bytes : List ℕ) → number + n ≤ most32 + 1 → is_some (unpacked n bytes) ≡ true → unpacked n bytes ≡ Some (walked n number bytes)
unfolding unpacked walked
all_walked zero number bytes h e = given _ [] e
all_walked (suc n) number bytes h e =
    let f = front n bytes e in
    unpacked_front n bytes _ f.1
    ∙ ap (option_map (λ ms. take f.0 (drop 2 bytes) ∷ ms)) (all_walked n (number + 1) (drop (2 + f.0) bytes) (omega arith) f.2)
    ∙ sym (ap Some (walked_front n number bytes _ f.1 (omega arith)))

-- one step of the walk
module _ (n m : ℕ) (bytes a b : List ℕ) (more : n ≡ suc m) where
  split : (o : Option ℕ) → Some (a, b) ≡ option_map (cut_at bytes) o → (k : ℕ) × (o ≡ Some k) × (a ≡ take k (drop 2 bytes)) × (b ≡ drop (2 + k) bytes)
  split None e = absurd (cc)
  split (Some k) e =
      let p : (a, b) ≡ cut_at bytes k = cc in
      (k, refl, ap (λ (z : List ℕ × List ℕ). z.0) p, ap (λ (z : List ℕ × List ℕ). z.1) p)

  pub step_walked : (number : ℕ) → number ≤ most32 → Some (a, b) ≡ split_message bytes → walked n number bytes ≡ a ∷ walked m (number + 1) b
  step_walked number h e =
      let s = split (message_length bytes) e in
      let w = ap (λ i. walked i number bytes) more ∙ walked_front m number bytes _ s.1 h in
      let x = s.2 in
      let y = s.3 in
      cc

  pub step_fills : Some (a, b) ≡ split_message bytes → is_some (unpacked n bytes) ≡ true → is_some (unpacked m b) ≡ true
  step_fills e h =
      let s = split (message_length bytes) e in
      let u = ap (λ i. is_some (unpacked i bytes)) more ∙ ap is_some (unpacked_front m bytes _ s.1) ∙ some_mapped _ (unpacked m (drop (2 + s.0) bytes)) in
      ap (λ r. is_some (unpacked m r)) s.3 ∙ sym u ∙ h

pub walked_none : (n number : ℕ) (bytes : List ℕ) → n ≡ 0 → walked n number bytes ≡ []
unfolding walked
walked_none n number bytes z = ap (λ k. walked k number bytes) z

no_step : (n : ℕ) (bytes : List ℕ) (o : Option ℕ) → message_length bytes ≡ o → None ≡ option_map (cut_at bytes) o → is_some (unpacked (suc n) bytes) ≡ false
no_step n bytes None e h = ap is_some (unpacked_front n bytes None e)
no_step n bytes (Some k) e h = absurd (cc)

-- bytes that messages fill begin with one
pub step_there : {X : Type 0} (n : ℕ) (bytes : List ℕ) → 1 ≤ n → None ≡ split_message bytes → is_some (unpacked n bytes) ≡ true → X
step_there zero bytes l e h = absurd (omega arith)
step_there (suc n) bytes l e h = let z = no_step n bytes _ refl e in absurd (cc)
