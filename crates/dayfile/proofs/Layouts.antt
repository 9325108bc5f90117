-- The bytes of one block, a step at a time.
use Rattle.std.proofs.Common.{◌≡◌, ℕ, zero, suc, ◌+◌, ◌-◌, ◌*◌, ◌%◌, ◌<◌, ◌≤◌, min, Bool, true, false, cond, ◌&&◌, leb, List, IfSome, length, get_or, take, drop, Some, None, Option, sym, refl, ap, ◌∙◌, ⊎_elim, mul-le-mul, arith}
use Rattle.std.proofs.lemmas.List.{at_drop_more, at_drop_all, length-take, length-drop, take_all, get_or-take}
use Rattle.std.proofs.lemmas.Bool.{and_parts, leb-true, cases_lt}
use Rattle.std.specs.Option.{option_map}
use Rattle.wire.specs.Numbers.{be16}
use Rattle.wire.specs.Frames.{message_length, skip_messages}
use Rattle.dayfile.specs.Blocks.{weighted, check_of, extent}

-- one byte more of the sum
pub weighted_more : (xs : List ℕ) (i sum : ℕ) → i < length xs → sum + weighted (i + 1) (drop i xs) ≡ sum + (i + 1) * get_or xs i 0 + weighted (i + 1 + 1) (drop (i + 1) xs)
unfolding weighted
weighted_more xs i sum h =
    let e : weighted (i + 1) (drop i xs) ≡ (i + 1) * get_or xs i 0 + weighted (i + 1 + 1) (drop (i + 1) xs) = at_drop_more (weighted (i + 1)) xs i 0 h in
    omega arith

pub weighted_all : (xs : List ℕ) (i : ℕ) → length xs ≤ i → weighted (i + 1) (drop i xs) ≡ 0
unfolding weighted
weighted_all xs i h = at_drop_all (weighted (i + 1)) xs i h

-- the bytes before the check: as many as there are, and at most 510
covered_is : (block : List ℕ) (n : ℕ) → n ≡ min (length block) 510 → take n block ≡ take 510 block
covered_is block n e =
    ⊎_elim
    (λ h. let s : n ≡ length block = omega arith in ap (λ k. take k block) s ∙ take_all (length block) block (omega arith) ∙ sym (take_all 510 block (omega arith)))
    (λ h. let s : n ≡ 510 = omega arith in ap (λ k. take k block) s)
    (cases_lt (length block) 510)

-- a term of the sum is at most 510 × 255
pub term_most : (block : List ℕ) (n i b : ℕ) → n ≡ min (length block) 510 → i < length (take n block) → b ≡ get_or (take n block) i 0 → get_or block i 0 < 256
    → (i + 1) * b ≤ 130050
term_most block n i b e h f small =
    let l : length (take n block) ≡ min n (length block) = length-take n block in
    let under : i < n = omega arith in
    let s : get_or (take n block) i 0 ≡ get_or block i 0 = get_or-take n block i 0 under in
    mul-le-mul {n₁ = i + 1} {m₁ = b} {n₂ = 510} {m₂ = 255} (omega arith) (omega arith)

pub covered_most : (block : List ℕ) (n i : ℕ) → n ≡ min (length block) 510 → i < length (take n block) → i < 510
covered_most block n i e h = omega (arith, length-take n block)

pub check_is : (block : List ℕ) (n i sum : ℕ) → n ≡ min (length block) 510 → length (take n block) ≤ i
    → sum + weighted (i + 1) (drop i (take n block)) ≡ weighted 1 (take n block) → sum % 65521 ≡ check_of block
check_is block n i sum e h s =
    let z = weighted_all (take n block) i h in
    let t : sum ≡ weighted 1 (take n block) = omega arith in
    ap (λ k. k % 65521) (t ∙ ap (weighted 1) (covered_is block n e))

-- a message lies in its bytes
fits_cond : (b : Bool) (n k : ℕ) → Some k ≡ cond b (Some n) None → (b ≡ true) × (k ≡ n)
fits_cond true n k e = (refl, cc)
fits_cond false n k e = absurd cc

pub length_fits : (bytes : List ℕ) (k : ℕ) → Some k ≡ message_length bytes → (5 ≤ k) × (k ≤ 80) × (2 + k ≤ length bytes)
length_fits bytes k e =
    let f = fits_cond (leb 5 (be16 bytes 0) && leb (be16 bytes 0) 80 && leb (2 + be16 bytes 0) (length bytes)) (be16 bytes 0) k e in
    let a = and_parts (leb 5 (be16 bytes 0) && leb (be16 bytes 0) 80) (leb (2 + be16 bytes 0) (length bytes)) f.0 in
    let b = and_parts (leb 5 (be16 bytes 0)) (leb (be16 bytes 0) 80) a.0 in
    let s = f.1 in
    let x = leb-true 5 (be16 bytes 0) b.0 in
    let y = leb-true (be16 bytes 0) 80 b.1 in
    let z = leb-true (2 + be16 bytes 0) (length bytes) a.1 in
    (omega arith, omega arith, omega arith)

-- what messages take is what is not behind them
measured : (a : ℕ) (bytes d : List ℕ) (o : Option (List ℕ)) → length bytes ≡ a + length d → IfSome o (λ r. length r ≤ length d)
    → IfSome o (λ r. length r ≤ length bytes) × (option_map (λ e. a + e) (option_map (λ r. length d - length r) o) ≡ option_map (λ r. length bytes - length r) o)
measured a bytes d None h l = (tt, refl)
measured a bytes d (Some r) h l = (omega arith, ap Some (omega arith))

module _ (n : ℕ) (bytes : List ℕ)
    (behind : (k : ℕ) → IfSome (skip_messages n (drop (2 + k) bytes)) (λ r. length r ≤ length (drop (2 + k) bytes))
    × (extent n (drop (2 + k) bytes) ≡ option_map (λ r. length (drop (2 + k) bytes) - length r) (skip_messages n (drop (2 + k) bytes)))) where
  extent_step : (o : Option ℕ) → o ≡ message_length bytes
      → IfSome (elim o [ None ↦ None | Some k ↦ skip_messages n (drop (2 + k) bytes) ]) (λ r. length r ≤ length bytes)
      × (elim o [ None ↦ None | Some k ↦ option_map (λ e. 2 + k + e) (extent n (drop (2 + k) bytes)) ]
      ≡ option_map (λ r. length bytes - length r) (elim o [ None ↦ None | Some k ↦ skip_messages n (drop (2 + k) bytes) ]))
  extent_step None e = (tt, refl)
  extent_step (Some k) e =
      let b = behind k in
      let f = length_fits bytes k e in
      let m = measured (2 + k) bytes (drop (2 + k) bytes) _ (omega (arith, length-drop (2 + k) bytes)) b.0 in
      (m.0, ap (option_map (λ e. 2 + k + e)) b.1 ∙ m.1)

extent_is : (n : ℕ) (bytes : List ℕ) → IfSome (skip_messages n bytes) (λ r. length r ≤ length bytes) × (extent n bytes ≡ option_map (λ r. length bytes - length r) (skip_messages n bytes))
unfolding extent skip_messages
extent_is zero bytes = (omega arith, ap Some (omega arith))
extent_is (suc n) bytes = extent_step n bytes (λ k. extent_is n (drop (2 + k) bytes)) (message_length bytes) refl

pub extent_some : (n : ℕ) (bytes r : List ℕ) → Some r ≡ skip_messages n bytes → Some (length bytes - length r) ≡ extent n bytes
extent_some n bytes r e = ap (option_map (λ r. length bytes - length r)) e ∙ sym (extent_is n bytes).1

pub extent_none : (n : ℕ) (bytes : List ℕ) → None ≡ skip_messages n bytes → None ≡ extent n bytes
extent_none n bytes e = ap (option_map (λ r. length bytes - length r)) e ∙ sym (extent_is n bytes).1
