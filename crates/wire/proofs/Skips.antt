-- A fold over numbers that passes a message at each.
use Rattle.std.proofs.Common.{◌≡◌, ℕ, suc, ◌+◌, ◌-◌, ◌≤◌, IfSome, MatchOption, subst, List, [], ◌∷◌, length, drop, Some, None, Option, sym, refl, ap, ◌∙◌, arith, Bor}
use Rattle.std.proofs.lemmas.List.{length-drop}
use Rattle.std.specs.declared.ops.Range.{Range}
use Rattle.std.specs.Iterator.{Yields}
use Rattle.std.specs.List.{FoldsTo}
use Rattle.std.specs.Option.{option_map}
use Rattle.std.proofs.iter.Yields.{nat_range_steps}
use Rattle.wire.specs.Frames.{message_length, skip_messages, rest}

-- what is behind one message
abbrev pub behind : List ℕ → Option ℕ → Option (List ℕ)
behind bytes o = option_map (λ k. drop (2 + k) bytes) o

abbrev skipped : ℕ → Option (List ℕ) → Option (List ℕ)
skipped n None = None
skipped n (Some r) = skip_messages n r

behind_then : (n : ℕ) (bytes : List ℕ) (o : Option ℕ) → elim o [ None ↦ None | Some k ↦ skip_messages n (drop (2 + k) bytes) ] ≡ skipped n (behind bytes o)
behind_then n bytes None = refl
behind_then n bytes (Some k) = refl

skip_step : (n m : ℕ) (bytes : List ℕ) (r : Option (List ℕ)) → n ≡ suc m → r ≡ behind bytes (message_length bytes) → skip_messages n bytes ≡ skipped m r
unfolding skip_messages
skip_step n m bytes r s e = ap (λ k. skip_messages k bytes) s ∙ behind_then m bytes (message_length bytes) ∙ ap (skipped m) (sym e)

skip_none : (n : ℕ) (bytes : List ℕ) → n ≡ 0 → skip_messages n bytes ≡ Some bytes
unfolding skip_messages
skip_none n bytes z = ap (λ k. skip_messages k bytes) z

shorter : (bytes r : List ℕ) (o : Option ℕ) → Some r ≡ behind bytes o → length r ≤ length bytes
shorter bytes r None e = let z : ◌≡◌ {A = ℕ} 0 1 = cc in absurd (omega arith)
shorter bytes r (Some k) e = let l : length r ≡ length (drop (2 + k) bytes) = cc in omega (arith, length-drop (2 + k) bytes)

module _ {F : Type 0} (turn : F × Bor (List ℕ) → ℕ → F × Bor (List ℕ) → Type 0)
    (passes : (p q : F × Bor (List ℕ)) (i : ℕ) → turn p i q → Some q.1.now ≡ behind p.1.now (message_length p.1.now)) where
  folded : (xs : List ℕ) (s t : Range ℕ) (p q : F × Bor (List ℕ)) → Yields nat_range_steps s xs t → FoldsTo turn p xs q
      → (length q.1.now ≤ length p.1.now) × (skip_messages (s.end - s.start) p.1.now ≡ skip_messages (t.end - t.start) q.1.now)
  folded [] s t p q y w =
      let same : length p.1.now ≡ length q.1.now = ap (λ (z : F × Bor (List ℕ)). length z.1.now) w in
      (omega arith, ap (λ (z : F × Bor (List ℕ)). skip_messages (s.end - s.start) z.1.now) w ∙ ap (λ (z : Range ℕ). skip_messages (z.end - z.start) q.1.now) y)
  folded (x ∷ xs) s t p q y w =
      let i = folded xs y.0 t w.0 q y.2 w.2 in
      let b = passes p w.0 x w.1 in
      let step = y.1 in
      let n : s.end - s.start ≡ suc ((y.0).end - (y.0).start) = omega arith in
      let less = shorter p.1.now (w.0).1.now _ b in
      let under : length q.1.now ≤ length (w.0).1.now = i.0 in
      (omega arith, skip_step (s.end - s.start) ((y.0).end - (y.0).start) p.1.now _ n b ∙ i.1)

  -- the fold comes to what is behind so many messages, or stops at one that is cut
  pub skip_folded : (count : ℕ) (xs : List ℕ) (t u : Range ℕ) (o : Option ℕ) (p q : F × Bor (List ℕ)) (r : Option (Bor (List ℕ))) (Stop : ℕ → Type 0)
      → Yields nat_range_steps (record { start = 0; end = count }) xs t → nat_range_steps t o u → FoldsTo turn p xs q → MatchOption o (r ≡ Some q.1) Stop
      → ((x : ℕ) → Stop x → (None ≡ behind q.1.now (message_length q.1.now)) × (r ≡ None))
      → IfSome r (λ b. length b.now ≤ length p.1.now) × (option_map rest r ≡ skip_messages count p.1.now)
  skip_folded count xs t u None p q None Stop y step w e stop = let z : ◌≡◌ {A = ℕ} 0 1 = cc in absurd (omega arith)
  skip_folded count xs t u None p q (Some b) Stop y step w e stop =
      let f = folded xs (record { start = 0; end = count }) t p q y w in
      let same : b ≡ q.1 = cc in
      let long : length b.now ≡ length q.1.now = ap (λ (z : Bor (List ℕ)). length z.now) same in
      let none : t.end - t.start ≡ 0 = step.1.0 in
      let under : length q.1.now ≤ length p.1.now = f.0 in
      let all : count ≡ count - 0 = omega arith in
      (omega arith, ap (λ (z : Bor (List ℕ)). Some z.now) same ∙ sym (ap (λ n. skip_messages n p.1.now) all ∙ f.1 ∙ skip_none (t.end - t.start) q.1.now none))
  skip_folded count xs t u (Some x) p q r Stop y step w e stop =
      let f = folded xs (record { start = 0; end = count }) t p q y w in
      let cut = stop x e in
      let n : t.end - t.start ≡ suc (t.end - t.start - 1) = omega arith in
      let all : count ≡ count - 0 = omega arith in (
        subst (λ o. IfSome o (λ b. length b.now ≤ length p.1.now)) (sym cut.1) tt,
        ap (option_map rest) cut.1 ∙ sym (ap (λ n. skip_messages n p.1.now) all ∙ f.1 ∙ skip_step (t.end - t.start) _ q.1.now None n cut.0),
      )
