-- The law, from what holds after every history.
use Rattle.std.proofs.Common.{◌≡◌, ℕ, zero, suc, pred, ◌-◌, ◌<◌, ◌≤◌, Bool, true, false, cond, leb, ◌⊎◌, List, length, Some, None, Option, sym, refl, ap, ◌∙◌, subst, inl, inr, arith, leb-false, leb-true}
use Rattle.codes.specs.declared.cause.Cause.{Cause}
use Rattle.codes.specs.declared.lamp.Lamp.{Lamp}
use Rattle.codes.specs.declared.lamp.Lamp.TheVariants as lamp
use Rattle.codes.specs.declared.refusal.Refusal.TheVariants as refusal
use Rattle.wire.specs.Names.{Session}
use Rattle.source.specs.Meanings.{Meaning}
use Rattle.std.proofs.lemmas.Slice.Eq.{bytes_eq-Decides}
use Rattle.book.specs.Plain.{Plain}
use Rattle.following.specs.States.{Room, Held, Wanting, State, dark, red, started, lamp_at, lamp_of}
use Rattle.following.specs.Calls.{ask, Question, refused, answered, told}
use Rattle.following.specs.Follower.{
  wanting,
  place_of,
  agrees,
  settled,
  mended,
  on_mended,
  unless_waiting,
  on_question,
  while_started,
  while_dark,
  while_red,
  outcome,
}
use Rattle.following.specs.Days.{Day, reached, stops, whole_run, after, since, highest_in}
use Rattle.following.specs.Law.{held_of, missing, Covers, Refuses, Mends, Law}
use Rattle.following.specs.declared.answers.Ending.TheVariants as ending
use Rattle.following.proofs.Shapes.{Shape}
use Rattle.following.proofs.Fits.{Fits}
use Rattle.following.proofs.Standing.{Tidy, tidy, Known, Faithful, faithful}
use Rattle.following.proofs.Repairs.{Repaired, repairs}

module _ (room : Room) (day : Day) where
  -- a run that was stopped stays so
  stays_stopped :
      (n k i : ℕ) (c : Cause) → k ≤ n → whole_run room.for_book day k ≡ stops i c → whole_run room.for_book day n ≡ stops i c
  unfolding whole_run
  stays_stopped zero k i c l e = let z : k ≡ 0 = omega arith in rw z at e
  stays_stopped (suc n) k i c l e = go (leb k n) refl (λ l'. stays_stopped n k i c l' e)
    where
      go : (t : Bool) → leb k n ≡ t → (k ≤ n → whole_run room.for_book day n ≡ stops i c) → whole_run room.for_book day (suc n) ≡ stops i c
      go true q ih = rw (ih (leb-true k n q)) refl
      go false q ih =
          let a : n < k = leb-false k n q in
          let z : k ≡ suc n = omega arith in
          subst (λ (j : ℕ). whole_run room.for_book day j ≡ stops i c) z e

  -- green, over the parts of a state
  green_at :
      (b : Option Wanting) (heard : Bool) (k : ℕ) (hs : List Held) (s : State) (n : ℕ) →
      Shape k (place_of b hs) → Fits room day (place_of b hs) → lamp_at b heard k ≡ lamp.Green n →
      (n ≡ suc k) × ((v : Plain) × (whole_run room.for_book day k ≡ reached v) ×
      ((q : Question) → on_question room (lamp_at b heard k) b s q ≡ told s (answered v q)))
  green_at None heard k hs s n o f e = absurd cc
  green_at (Some b) false k hs s n o f e = absurd cc
  green_at (Some b) true k hs s n o f e = go (leb b.wanted k) refl e
    where
      go :
          (t : Bool) → leb b.wanted k ≡ t → cond t (lamp.Gap b.wanted k) (lamp.Green b.wanted) ≡ lamp.Green n →
          (n ≡ suc k) × ((v : Plain) × (whole_run room.for_book day k ≡ reached v) ×
          ((q : Question) → on_question room (cond t (lamp.Gap b.wanted k) (lamp.Green b.wanted)) (Some b) s q ≡ told s (answered v q)))
      go true q e' = absurd cc
      go false q e' =
          let a : k < b.wanted = leb-false b.wanted k q in
          let w : b.wanted ≡ n = cc in
          let z : pred b.wanted ≡ k = omega arith in
          (omega arith, (b.book, rw z at f.1, λ x. refl))

  not_green_at :
      (b : Option Wanting) (l : Lamp) (s : State) → ((n : ℕ) → l ≡ lamp.Green n → ⊥) → (q : Question) →
      on_question room l b s q ≡ refused (refusal.NotGreen l)
  not_green_at b (lamp.Green n) s g q = absurd (g n refl)
  not_green_at b shown s g q = refl

  agrees_known : (t : Option Session) (s : Session) → Known room day t → s ≡ day.session → agrees t s ≡ true
  unfolding agrees
  agrees_known None s e e' = refl
  agrees_known (Some t) s e e' = (bytes_eq-Decides t.bytes s.bytes).1 (ap (λ (x : Session). x.bytes) (e ∙ sym e'))

  -- gap, over the parts of a state
  gap_at :
      (t : Option Session) (b : Option Wanting) (heard : Bool) (k : ℕ) (hs : List Held) (w i : ℕ) →
      Known room day t → Shape k (place_of b hs) → lamp_at b heard k ≡ lamp.Gap w i →
      (source : Meaning) (budget : ℕ) → source.session ≡ day.session →
      Covers source w i hs → missing hs w (suc i - w) ≤ budget →
      (cond (agrees t source.session)
      (unless_waiting room (lamp_at b heard k) (on_mended room source.session k (mended room source.held k budget (place_of b hs))))
      (refused refusal.OtherSession)
      ≡ on_mended room source.session k (mended room source.held k budget (place_of b hs)))
      × ((i ≡ k) × Repaired room source k (Some source.session) (mended room source.held k budget (place_of b hs)) (missing hs w (suc i - w)))
  gap_at t None heard k hs w i a o e source budget ours cov enough = absurd cc
  gap_at t (Some b) false k hs w i a o e source budget ours cov enough = absurd cc
  gap_at t (Some b) true k hs w i a o e source budget ours cov enough = go (leb b.wanted k) refl e
    where
      go :
          (u : Bool) → leb b.wanted k ≡ u → cond u (lamp.Gap b.wanted k) (lamp.Green b.wanted) ≡ lamp.Gap w i →
          (cond (agrees t source.session)
          (unless_waiting room (cond u (lamp.Gap b.wanted k) (lamp.Green b.wanted))
          (on_mended room source.session k (mended room source.held k budget (wanting b hs))))
          (refused refusal.OtherSession)
          ≡ on_mended room source.session k (mended room source.held k budget (wanting b hs)))
          × ((i ≡ k) × Repaired room source k (Some source.session) (mended room source.held k budget (wanting b hs)) (missing hs w (suc i - w)))
      go false q e' = absurd cc
      go true q e' =
          let ew : w ≡ b.wanted = cc in
          let ei : i ≡ k = cc in (
            rw (agrees_known t source.session a ours) refl,
            (
              ei,
              rw (ew, ei)
                  (repairs room source k b hs budget (Some source.session) (leb-true b.wanted k q) o.1 (rw (ew, ei) at cov) (rw (ew, ei) at enough)),
            ),
          )

  module _ (top : ℕ) where
    green_right :
        (s : State) → Tidy top s → Faithful room day s → (n : ℕ) → lamp_of s ≡ lamp.Green n →
        (n ≡ suc top) × ((v : Plain) × (whole_run room.for_book day top ≡ reached v) ×
        ((q : Question) → outcome room s (ask q) ≡ told s (answered v q)))
    unfolding lamp_of outcome while_started
    green_right dark t f n e = absurd cc
    green_right (red k c) t f n e = absurd cc
    green_right (started s) t f n e =
        let r = green_at s.book s.heard s.highest s.held (started s) n t.1 f.1 e in
        (r.0 ∙ ap suc t.0, (r.1.0, ap (whole_run room.for_book day) (sym t.0) ∙ r.1.1, r.1.2))

    no_book : (s : State) → ((n : ℕ) → lamp_of s ≡ lamp.Green n → ⊥) → (q : Question) → Refuses room s q
    unfolding lamp_of outcome while_started while_dark while_red
    no_book dark g q = inl refl
    no_book (red k c) g q = inr (inl refl)
    no_book (started s) g q = inr (inr (not_green_at s.book (lamp_at s.book s.heard s.highest) (started s) g q))

    waits : (b : Option Wanting) (heard : Bool) (k i : ℕ) (c : Cause) → lamp_at b heard k ≡ lamp.Red i c → ⊥
    waits None heard k i c e = cc
    waits (Some b) false k i c e = cc
    waits (Some b) true k i c e = go (leb b.wanted k) e
      where
        go : (t : Bool) → cond t (lamp.Gap b.wanted k) (lamp.Green b.wanted) ≡ lamp.Red i c → ⊥
        go true e' = cc
        go false e' = cc

    red_right :
        (s : State) → Faithful room day s → (k : ℕ) (c : Cause) → lamp_of s ≡ lamp.Red k c →
        whole_run room.for_book day (length day.messages) ≡ stops k c
    unfolding lamp_of
    red_right dark f k c e = absurd cc
    red_right (started s) f k c e = absurd (waits s.book s.heard s.highest k c e)
    red_right (red i cause) f k c e =
        let n : i ≡ k = cc in
        let why : cause ≡ c = cc in
        stays_stopped (length day.messages) i i cause f.1 f.0 ∙ ap (λ j. stops j cause) n ∙ ap (stops k) why

    gap_mends :
        (s : State) → Tidy top s → Faithful room day s → (w k : ℕ) → lamp_of s ≡ lamp.Gap w k →
        (source : Meaning) (budget : ℕ) → source.session ≡ day.session →
        Covers source w k (held_of s) → missing (held_of s) w (suc k - w) ≤ budget →
        Mends room s source budget k (missing (held_of s) w (suc k - w))
    unfolding lamp_of outcome while_started
    gap_mends dark t f w k e source budget ours cov enough = absurd cc
    gap_mends (red i c) t f w k e source budget ours cov enough = absurd cc
    gap_mends (started s) t f w k e source budget ours cov enough =
        let r = gap_at s.session s.book s.heard s.highest s.held w k f.0 t.1 e source budget ours cov enough in
        let m = mended room source.held s.highest budget (place_of s.book s.held) in
        record {
          next = settled (Some source.session) s.highest m.place;
          fetched = m.fetched;
          how = m.ending;
          answers = r.0;
          ends = subst
              (λ (i : ℕ).
              ((m.ending ≡ ending.Green) × (m.fetched ≡ missing s.held w (suc k - w)) × (lamp_of (settled (Some source.session) s.highest m.place) ≡ lamp.Green (suc i)))
              ⊎ ((m.ending ≡ ending.Red) × ((j : ℕ) × (c : Cause) × (settled (Some source.session) s.highest m.place ≡ red j c))))
              (sym r.1.0) r.1.1;
        }

pub law : Law
law room history day ok =
    let top = highest_in room (since room history) in
    let t = tidy room history in
    let f = faithful room day history ok in
    record {
      green_right = λ n e.
          let r = green_right room day top (after room history) t f n e in
          record { last = r.0; book = r.1.0; run = r.1.1; asks = r.1.2 };
      no_book = no_book room day top (after room history);
      red_right = red_right room day top (after room history) f;
      gap_mends = gap_mends room day top (after room history) t f;
    }
