-- No needless gap: what packets carried is below the wanted number or held, where nothing was dropped.
use Rattle.std.proofs.Common.{◌≡◌, ℕ, zero, suc, ◌+◌, ◌<◌, ◌≤◌, max, Bool, true, false, cond, eqb, ltb, leb, ◌⊎◌, List, [], ◌∷◌, length, is_some, Some, None, Ok, Err, Option, Result, Ordering, Less, Equal, Greater, sym, refl, ap, ◌∙◌, subst, inl, inr, ⊎_elim, arith, ltb-true, eqb-true}
use borrow.Author.Tests.{both_ways}
use Rattle.std.proofs.lemmas.Bool.{cases_order, cases_lt}
use Rattle.std.specs.Cmp.{nat_cmp_is, nat_cmp_total}
use Rattle.codes.specs.declared.cause.Cause.{Cause}
use Rattle.codes.specs.declared.lamp.Lamp.TheVariants as lamp
use Rattle.wire.specs.Names.{Session}
use Rattle.table.proofs.Laws.{found_placed, found_placed_other, found_onward}
use Rattle.book.specs.Keys.{by_number}
use Rattle.book.specs.Plain.{Plain, ran}
use Rattle.following.specs.States.{
  Room,
  Held,
  number_of,
  is_held,
  with_held,
  held_from,
  Wanting,
  State,
  dark,
  red,
  started,
  lamp_at,
  lamp_of,
}
use Rattle.following.specs.Calls.{Call}
use Rattle.following.specs.Follower.{Place, bookless, wanting, stopped, place_of, settled, Fate, taken, repeated, dropped, count_one, going_on, run_held, run_wanted, treated, place_after, counts_of, ends, fetching, mended}
use Rattle.following.specs.Days.{after, since, highest_in}
use Rattle.following.specs.Law.{Carries, Carried, NoNeedlessGap}
use Rattle.following.specs.declared.answers.Counts.{Counts}
use Rattle.following.specs.declared.answers.Ending.TheVariants as ending
use Rattle.following.proofs.Held.{ranked, held_later, not_held, ordered_not_held}
use Rattle.following.proofs.Shapes.{Shape}
use Rattle.following.proofs.Histories.{Kept, always}
use Rattle.following.proofs.Standing.{Tidy, tidy_kept}

-- the number j was run already, or is held
abbrev pub In : ℕ → Place → Type 0
In j (bookless hs) = is_held j hs ≡ true
In j (wanting b hs) = (j < b.wanted) ⊎ (is_held j hs ≡ true)
In j (stopped n c) = Unit {0}

equal_key : (a b : ℕ) → a ≡ b → by_number a b ≡ Equal
equal_key a b e = sym (nat_cmp_is a b Equal e)

held_now : (k : ℕ) (x : List ℕ) (hs : List Held) → is_held k (with_held k x hs) ≡ true
held_now k x hs =
    ap is_some (found_placed number_of by_number nat_cmp_total (record { number = k; bytes = x }) hs k (equal_key k k refl))

held_still : (j k : ℕ) (x : List ℕ) (hs : List Held) → is_held j hs ≡ true → is_held j (with_held k x hs) ≡ true
held_still j k x hs h = go (by_number k j) refl
  where
    other : (by_number k j ≡ Equal → ⊥) → is_held j (with_held k x hs) ≡ true
    other n = ap is_some (found_placed_other number_of by_number nat_cmp_total (record { number = k; bytes = x }) hs j n) ∙ h

    go : (r : Ordering) → by_number k j ≡ r → is_held j (with_held k x hs) ≡ true
    go Less e = other (λ q. cc)
    go Greater e = other (λ q. cc)
    go Equal e =
        ap is_some (found_placed number_of by_number nat_cmp_total (record { number = k; bytes = x }) hs j e)

held_beyond : (j n : ℕ) (hs : List Held) → is_held j hs ≡ true → (j < n) ⊎ (is_held j (held_from n hs) ≡ true)
held_beyond j n hs h = go (by_number j n) refl
  where
    kept_on : (by_number j n ≡ Less → ⊥) → is_held j (held_from n hs) ≡ true
    kept_on no_less = ap is_some (found_onward number_of by_number nat_cmp_total n hs j no_less) ∙ h

    go : (r : Ordering) → by_number j n ≡ r → (j < n) ⊎ (is_held j (held_from n hs) ≡ true)
    go Less e = inl (ranked j n Less e)
    go Equal e = inr (kept_on (λ q. cc))
    go Greater e = inr (kept_on (λ q. cc))

-- a held message is the first, or among the rest
first_or_rest : (j : ℕ) (h : Held) (hs : List Held) → is_held j (h ∷ hs) ≡ true → (j ≡ h.number) ⊎ (is_held j hs ≡ true)
first_or_rest j h hs e =
    ⊎_elim (λ q. inl q)
    (⊎_elim
    (λ l. absurd (both_ways (is_held j (h ∷ hs)) (not_held j h hs l) e))
    (λ l. inr (sym (held_later j h hs l) ∙ e)))
    (cases_order j h.number)

module _ (room : Room) (j : ℕ) where
  in_run_held : (hs : List Held) (b : Plain) (w : ℕ) → (j < w) ⊎ (is_held j hs ≡ true) → In j (run_held room b w hs)
  unfolding run_held
  in_run_held [] b w i = i
  in_run_held (h ∷ hs) b w i = go (eqb h.number w) refl (ran room.for_book b h.bytes) (λ b'. in_run_held hs b' (suc w))
    where
      next : h.number ≡ w → (j < w) ⊎ (is_held j (h ∷ hs) ≡ true) → (j < suc w) ⊎ (is_held j hs ≡ true)
      next e (inl l) = inl (omega arith)
      next e (inr q) = ⊎_elim (λ a. inl (omega arith)) (λ r. inr r) (first_or_rest j h hs q)

      go :
          (t : Bool) → eqb h.number w ≡ t → (r : Result Plain Cause) →
          ((b' : Plain) → (j < suc w) ⊎ (is_held j hs ≡ true) → In j (run_held room b' (suc w) hs)) →
          In j (cond t (going_on w r (λ b'. run_held room b' (suc w) hs)) (wanting (record { book = b; wanted = w }) (h ∷ hs)))
      go false q r ih = i
      go true q (Ok b') ih = ih b' (next (eqb-true h.number w q) i)
      go true q (Err c) ih = tt

  in_run_wanted : (b : Wanting) (x : List ℕ) (hs : List Held) → (j < suc b.wanted) ⊎ (is_held j hs ≡ true) → In j (run_wanted room b x hs)
  unfolding run_wanted
  in_run_wanted b x hs i = go (ran room.for_book b.book x)
    where
      go : (r : Result Plain Cause) → In j (going_on b.wanted r (λ b'. run_held room b' (suc b.wanted) hs))
      go (Ok b') = in_run_held hs b' (suc b.wanted) i
      go (Err c) = tt

  later : (b : Wanting) (hs : List Held) → In j (wanting b hs) → (j < suc b.wanted) ⊎ (is_held j hs ≡ true)
  later b hs (inl l) = inl (omega arith)
  later b hs (inr e) = inr e

  -- a message of a packet takes nothing away
  treated_keeps : (p : Place) (i : ℕ) (x : List ℕ) → In j p → In j (treated room p i x).1
  unfolding treated
  treated_keeps (bookless hs) i x h = go (is_held i hs) (ltb (length hs) room.for_held)
    where
      go :
          (t u : Bool) →
          In j (cond {A = Fate × Place} t (repeated, bookless hs) (cond u (taken, bookless (with_held i x hs)) (dropped, bookless hs))).1
      go true u = h
      go false true = held_still j i x hs h
      go false false = h
  treated_keeps (wanting b hs) i x h =
      go (ltb i b.wanted) (eqb i b.wanted) (is_held i hs) (ltb (length hs) room.for_held)
    where
      with : In j (wanting b hs) → In j (wanting b (with_held i x hs))
      with (inl l) = inl l
      with (inr e) = inr (held_still j i x hs e)

      go :
          (t u v r : Bool) →
          In j
          (cond {A = Fate × Place} t (repeated, wanting b hs)
          (cond u (taken, run_wanted room b x hs)
          (cond v (repeated, wanting b hs) (cond r (taken, wanting b (with_held i x hs)) (dropped, wanting b hs))))).1
      go true u v r = h
      go false true v r = in_run_wanted b x hs (later b hs h)
      go false false true r = h
      go false false false true = with h
      go false false false false = h
  treated_keeps (stopped n c) i x h = tt

  place_after_keeps : (ms : List (List ℕ)) (p : Place) (k : ℕ) → In j p → In j (place_after room p k ms)
  unfolding place_after
  place_after_keeps [] p k h = h
  place_after_keeps (m ∷ ms) p k h = place_after_keeps ms (treated room p k m).1 (suc k) (treated_keeps p k m h)

  mended_keeps : (source : ℕ → Option (List ℕ)) (k n : ℕ) (p : Place) → In j p → In j (mended room source k n p).place
  unfolding mended
  mended_keeps source k zero (bookless hs) h = h
  mended_keeps source k zero p h = h
  mended_keeps source k (suc n) (wanting b hs) h =
      go (leb b.wanted k) (source b.wanted) (λ x. mended_keeps source k n (run_wanted room b x hs))
    where
      go :
          (u : Bool) (o : Option (List ℕ)) →
          ((x : List ℕ) → In j (run_wanted room b x hs) → In j (mended room source k n (run_wanted room b x hs)).place) →
          In j
          (cond u (fetching o (wanting b hs) (λ x. mended room source k n (run_wanted room b x hs))) (ends (wanting b hs) ending.Green)).place
      go false o ih = h
      go true None ih = h
      go true (Some x) ih = ih x (in_run_wanted b x hs (later b hs h))
  mended_keeps source k (suc n) p h = h

-- a message that is not dropped is there afterwards
module _ (room : Room) where
  treated_has : (p : Place) (i : ℕ) (x : List ℕ) → ((treated room p i x).0 ≡ dropped → ⊥) → In i (treated room p i x).1
  unfolding treated
  treated_has (bookless hs) i x n = go (is_held i hs) refl (ltb (length hs) room.for_held) n
    where
      go :
          (t : Bool) → is_held i hs ≡ t → (u : Bool) →
          ((cond {A = Fate × Place} t (repeated, bookless hs) (cond u (taken, bookless (with_held i x hs)) (dropped, bookless hs))).0 ≡ dropped → ⊥) →
          In i (cond {A = Fate × Place} t (repeated, bookless hs) (cond u (taken, bookless (with_held i x hs)) (dropped, bookless hs))).1
      go true q u no_drop = q
      go false q true no_drop = held_now i x hs
      go false q false no_drop = absurd (no_drop refl)
  treated_has (wanting b hs) i x n =
      go (ltb i b.wanted) refl (eqb i b.wanted) refl (is_held i hs) refl (ltb (length hs) room.for_held) n
    where
      go :
          (t : Bool) → ltb i b.wanted ≡ t → (u : Bool) → eqb i b.wanted ≡ u → (v : Bool) → is_held i hs ≡ v → (r : Bool) →
          ((cond {A = Fate × Place} t (repeated, wanting b hs)
          (cond u (taken, run_wanted room b x hs)
          (cond v (repeated, wanting b hs) (cond r (taken, wanting b (with_held i x hs)) (dropped, wanting b hs))))).0 ≡ dropped → ⊥) →
          In i
          (cond {A = Fate × Place} t (repeated, wanting b hs)
          (cond u (taken, run_wanted room b x hs)
          (cond v (repeated, wanting b hs) (cond r (taken, wanting b (with_held i x hs)) (dropped, wanting b hs))))).1
      go true q u q' v q'' r no_drop = inl (ltb-true i b.wanted q)
      go false q true q' v q'' r no_drop = in_run_wanted room i b x hs (let a : i ≡ b.wanted = eqb-true i b.wanted q' in inl (omega arith))
      go false q false q' true q'' r no_drop = inr q''
      go false q false q' false q'' true no_drop = inr (held_now i x hs)
      go false q false q' false q'' false no_drop = absurd (no_drop refl)
  treated_has (stopped k c) i x n = tt

  one_dropped : (f : Fate) (c : Counts) → (count_one f c).dropped ≡ 0 → (f ≡ dropped → ⊥) × (c.dropped ≡ 0)
  one_dropped dropped c e = absurd (omega arith)
  one_dropped fate c e = ((λ q. cc), e)

  place_after_has :
      (ms : List (List ℕ)) (p : Place) (k j : ℕ) → (counts_of room p k ms).dropped ≡ 0 → k ≤ j → suc j ≤ k + length ms → In j (place_after room p k ms)
  unfolding place_after counts_of
  place_after_has [] p k j e a b = absurd (omega arith)
  place_after_has (m ∷ ms) p k j e a b =
      let f = one_dropped (treated room p k m).0 (counts_of room (treated room p k m).1 (suc k) ms) e in
      ⊎_elim
      (λ q.
      subst (λ i. In i (place_after room (treated room p k m).1 (suc k) ms)) q
      (place_after_keeps room k ms (treated room p k m).1 (suc k) (treated_has p k m f.0)))
      (λ l. place_after_has ms (treated room p k m).1 (suc k) j f.1 (omega arith) (omega arith))
      (here_or_later k j a)
    where
      here_or_later : (k j : ℕ) → k ≤ j → (k ≡ j) ⊎ (k < j)
      here_or_later k j a = ⊎_elim (λ l. inr l) (λ l. inl (omega arith)) (cases_lt k j)

  abbrev Has : ℕ → State → Type 0
  Has j dark = Unit {0}
  Has j (red k c) = Unit {0}
  Has j (started s) = In j (place_of s.book s.held)

  settled_has : (j : ℕ) (p : Place) (s : Option Session) (k : ℕ) → In j p → Has j (settled s k p)
  unfolding settled
  settled_has j (bookless hs) s k i = i
  settled_has j (wanting b hs) s k i = i
  settled_has j (stopped n c) s k i = tt

  abbrev AllIn : List Call → ℕ → State → Type 0
  AllIn cs n s = n ≡ 0 → (j : ℕ) → Carried cs j → Has j s

  all_in_kept : Kept room AllIn
  unfolding Carried
  all_in_kept =
      record {
        at_dark = λ cs n z j c. tt;
        at_one = λ z j c. absurd c;
        at_none = λ z j c. absurd c;
        by_lamp = λ cs n s ih z j c. ih z j (⊎_elim absurd (λ i. i) c);
        by_question = λ cs n s q ih z j c. ih z j (⊎_elim absurd (λ i. i) c);
        by_heartbeat = λ cs n s bytes next session e ih z j c.
            settled_has j (place_of s.book s.held) (Some session) (max s.highest _)
            (⊎_elim (λ i. absurd (subst (λ r. Carries r j) e i)) (ih (omega arith) j) c);
        by_data = λ cs n s bytes number ms e ih z j c.
            let p = place_of s.book s.held in
            settled_has j (place_after room p number ms) s.session _
            (⊎_elim
            (λ i. let r = subst (λ x. Carries x j) e i in place_after_has ms p number j (omega arith) r.0 r.1)
            (λ i. place_after_keeps room j ms p number (ih (omega arith) j i))
            c);
        by_snapshot = λ cs n s bytes snap b e ih z j c.
            let h : is_held j s.held ≡ true = subst (λ o. In j (place_of o s.held)) b (ih z j (⊎_elim absurd (λ i. i) c)) in
            settled_has j (run_held room snap.book snap.next (held_from snap.next s.held)) (Some snap.session) _
            (in_run_held room j (held_from snap.next s.held) snap.book snap.next (held_beyond j snap.next s.held h));
        by_repair = λ cs n s source budget ih z j c.
            settled_has j (mended room source.held s.highest budget (place_of s.book s.held)).place (Some source.session) _
            (mended_keeps room j source.held s.highest budget (place_of s.book s.held) (ih z j (⊎_elim absurd (λ i. i) c)));
      }

  gap_not_in :
      (b : Option Wanting) (heard : Bool) (h : ℕ) (hs : List Held) (w k : ℕ) →
      Shape h (place_of b hs) → lamp_at b heard h ≡ lamp.Gap w k → In w (place_of b hs) → ⊥
  gap_not_in None heard h hs w k o e i = cc
  gap_not_in (Some b) false h hs w k o e i = cc
  gap_not_in (Some b) true h hs w k o e i = go (leb b.wanted h) e
    where
      go : (t : Bool) → cond t (lamp.Gap b.wanted h) (lamp.Green b.wanted) ≡ lamp.Gap w k → ⊥
      go false e' = cc
      go true e' =
          let same : b.wanted ≡ w = cc in
          ⊎_elim (λ l. omega arith) (λ q. both_ways (is_held w hs) (ordered_not_held hs b.wanted h w (omega arith) o.1) q) i

  gap_at : (top : ℕ) (s : State) (w k : ℕ) → Tidy top s → lamp_of s ≡ lamp.Gap w k → Has w s → ⊥
  unfolding lamp_of
  gap_at top dark w k t e i = cc
  gap_at top (red n c) w k t e i = cc
  gap_at top (started s) w k t e i = gap_not_in s.book s.heard s.highest s.held w k t.1 e i

pub no_needless_gap : NoNeedlessGap
no_needless_gap room history w k z e c =
    gap_at room (highest_in room (since room history)) (after room history) w k
    (always room (λ cs n s. Tidy (highest_in room cs) s) (tidy_kept room) history) e
    (always room (AllIn room) (all_in_kept room) history z w c)
