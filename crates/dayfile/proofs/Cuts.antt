-- The blocks of a file, one by one.
use Rattle.std.proofs.Common.{◌≡◌, ℕ, zero, suc, IsTrue, IfSome, IsSomeAnd, ◌+◌, ◌*◌, ◌/◌, ◌<◌, ◌≤◌, List, [], ◌∷◌, length, take, drop, Some, None, Option, MatchOption, sym, refl, ap, ◌∙◌, arith, Bor}
use Rattle.std.proofs.lemmas.List.{length-drop, drop-drop}
use Rattle.std.specs.Fn.{Mut, Called}
use Rattle.std.specs.Iterator.Runs.{Run, AllItemsBelow, AllItemsGive, IsFirstToGive, CallKeepsClosure, IsChunksExactRun}
use Rattle.std.specs.List.{IsSubsliceAt}
use Rattle.std.specs.Option.{option_map}
use Rattle.std.specs.Slice.Iter.{chunks_exact_steps}
use Rattle.wire.specs.Names.{Session}
use Rattle.dayfile.specs.Blocks.{Block, cut, blocks, good, held_in, or_later, in_blocks, session_or, first_session}

-- the first block, and those behind it
pub blocks_more : (bytes : List ℕ) → 512 ≤ length bytes → blocks bytes ≡ take 512 bytes ∷ blocks (drop 512 bytes)
unfolding cut
blocks_more bytes h =
    let n : length bytes / 512 ≡ suc (length (drop 512 bytes) / 512) = omega (arith, length-drop 512 bytes) in
    ap (λ k. cut k bytes) n

pub blocks_none : (bytes : List ℕ) → length bytes < 512 → blocks bytes ≡ []
unfolding cut
blocks_none bytes h =
    let n : length bytes / 512 ≡ 0 = omega arith in
    ap (λ k. cut k bytes) n

in_blocks_more : (session : Session) (bytes : List ℕ) (n : ℕ) → 512 ≤ length bytes
    → in_blocks session (blocks bytes) n ≡ or_later (held_in session (good (take 512 bytes)) n) (in_blocks session (blocks (drop 512 bytes)) n)
unfolding in_blocks
in_blocks_more session bytes n h = ap (λ b. in_blocks session b n) (blocks_more bytes h)

-- what a block holds, and what it leaves to those behind it
pub held_here : (session : Session) (bytes : List ℕ) (o : Option Block) (n : ℕ) (m : List ℕ) → 512 ≤ length bytes → o ≡ good (take 512 bytes) → held_in session o n ≡ Some m
    → in_blocks session (blocks bytes) n ≡ Some m
held_here session bytes o n m l g h =
    in_blocks_more session bytes n l
    ∙ ap (λ x. or_later x (in_blocks session (blocks (drop 512 bytes)) n)) (ap (λ x. held_in session x n) (sym g) ∙ h)

pub held_later : (session : Session) (bytes : List ℕ) (o : Option Block) (n : ℕ) → 512 ≤ length bytes → o ≡ good (take 512 bytes) → held_in session o n ≡ None
    → in_blocks session (blocks bytes) n ≡ in_blocks session (blocks (drop 512 bytes)) n
held_later session bytes o n l g h =
    in_blocks_more session bytes n l
    ∙ ap (λ x. or_later x (in_blocks session (blocks (drop 512 bytes)) n)) (ap (λ x. held_in session x n) (sym g) ∙ h)

pub held_none : (session : Session) (bytes : List ℕ) (n : ℕ) → length bytes < 512 → in_blocks session (blocks bytes) n ≡ None
unfolding in_blocks
held_none session bytes n l = ap (λ b. in_blocks session b n) (blocks_none bytes l)

-- the session of a good block
abbrev pub block_session : List ℕ → Option Session
block_session b = option_map (λ (k : Block). k.session) (good b)

first_at : (o : Option Block) (later : Option Session) (s : Session) → option_map (λ (k : Block). k.session) o ≡ Some s → session_or o later ≡ Some s
first_at None later s e = cc
first_at (Some k) later s e = e

first_past : (o : Option Block) (later : Option Session) → option_map (λ (k : Block). k.session) o ≡ None → session_or o later ≡ later
first_past None later e = refl
first_past (Some k) later e = cc

first_more : (bytes : List ℕ) → 512 ≤ length bytes → first_session (blocks bytes) ≡ session_or (good (take 512 bytes)) (first_session (blocks (drop 512 bytes)))
unfolding first_session
first_more bytes h = ap first_session (blocks_more bytes h)

pub first_none : (bytes : List ℕ) → length bytes < 512 → first_session (blocks bytes) ≡ None
unfolding first_session
first_none bytes h = ap first_session (blocks_none bytes h)

-- behind blocks that are not good
first_behind : (bytes : List ℕ) (n : ℕ) → n * 512 ≤ length bytes → ((k : ℕ) → k < n → block_session (take 512 (drop (k * 512) bytes)) ≡ None)
    → first_session (blocks bytes) ≡ first_session (blocks (drop (n * 512) bytes))
first_behind bytes zero h none = refl
first_behind bytes (suc n) h none =
    let more : (k : ℕ) → drop (k * 512) (drop 512 bytes) ≡ drop (suc k * 512) bytes = λ k. let e : 512 + k * 512 ≡ suc k * 512 = omega arith in drop-drop (k * 512) 512 bytes ∙ ap (λ i. drop i bytes) e in
    first_more bytes (omega arith) ∙ first_past (good (take 512 bytes)) _ (none 0 (omega arith))
    ∙ first_behind (drop 512 bytes) n (omega (arith, length-drop 512 bytes)) (λ k l. ap (λ b. block_session (take 512 b)) (more k) ∙ none (suc k) (omega arith))
    ∙ ap (λ b. first_session (blocks b)) (more n)

-- the first block with a session, where a run over the chunks of 512 bytes finds it
module _ {F : Type 0} (g : Mut F (Bor (List ℕ) × Unit {0}) (Option Session)) (f : F) (keeps : CallKeepsClosure g f)
    (calls : (x : Bor (List ℕ)) (r : Option Session) → length x.now ≡ 512 → Called g f (x, tt) r f → r ≡ block_session x.now)
    (p : Run (chunks_exact_steps {A = ℕ})) (bytes : List ℕ) (cuts : IsChunksExactRun p 512 bytes) where
  item : (k : ℕ) (o : Option (Bor (List ℕ))) (r : Option Session) → IfSome o (λ x. (length x.now ≡ 512) × (k * 512 + 512 ≤ length bytes) × IsSubsliceAt 512 bytes (k * 512) x.now)
      → IsSomeAnd o (λ x. Called g f (x, tt) r f) → r ≡ block_session (take 512 (drop (k * 512) bytes))
  item k None r s c = absurd c
  item k (Some x) r s c = calls x r s.0 c ∙ ap block_session s.2.0

  there : (o : Option (Bor (List ℕ))) (d : Bor (List ℕ)) (P : Bor (List ℕ) → Type 0) → option_map (λ y. y) o ≡ Some d → IfSome o P → IsSomeAnd o P
  there None d P e h = cc
  there (Some x) d P e h = h

  missed : (n : ℕ) → n ≤ p.len → AllItemsBelow p n (λ x. Called g f (x, tt) None f) → first_session (blocks bytes) ≡ first_session (blocks (drop (n * 512) bytes))
  missed n h all = first_behind bytes n (omega (arith, cuts.0)) (λ k l. sym (item k (p.at k) None (cuts.2 k) (all k l)))

  some_item : (k : ℕ) (xs : List (Bor (List ℕ))) → k < length xs → Bor (List ℕ)
  some_item k [] l = absurd (omega arith)
  some_item k (x ∷ xs) l = x

  pub found : (r : Option Session)
      → MatchOption r (IsTrue p.whole × AllItemsGive p g f None) (λ y. (i : ℕ) × (i < p.len) × (p.len ≡ i + 1) × IsFirstToGive p g f (Some y) None i)
      → r ≡ first_session (blocks bytes)
  found None e =
      let count : p.len ≡ length bytes / 512 = cuts.1 e.0 in
      let all : AllItemsBelow p p.len (λ x. Called g f (x, tt) None f) =
      λ k l. there (p.at k) _ _ (p.reads k (some_item k p.items (omega (arith, p.long))) l) (e.1 keeps k) in
      sym (missed p.len (omega arith) all ∙ first_none (drop (p.len * 512) bytes) (omega (arith, length-drop (p.len * 512) bytes)))
  found (Some y) e =
      let i = e.0 in
      let first = e.3 keeps in
      let fits : 512 ≤ length (drop (i * 512) bytes) = omega (arith, e.1, cuts.0, length-drop (i * 512) bytes) in
      sym (missed i (omega (arith, e.1)) first.1 ∙ first_more (drop (i * 512) bytes) fits ∙ first_at (good (take 512 (drop (i * 512) bytes))) _ y (sym (item i (p.at i) (Some y) (cuts.2 i) first.0)))
