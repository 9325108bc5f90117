-- What a repair answers is so, whatever its source and its budget.
use Rattle.std.proofs.Common.{◌≡◌, ℕ, zero, suc, ◌+◌, ◌-◌, ◌<◌, ◌≤◌, Bool, true, false, cond, eqb, leb, ◌⊎◌, List, [], ◌∷◌, length, Some, None, Ok, Err, Option, Result, refl, subst, inl, inr, arith, le-leb, leb-false, leb-true}
use borrow.Author.Tests.{lt-leb}
use Rattle.codes.specs.declared.cause.Cause.{Cause}
use Rattle.codes.specs.declared.lamp.Lamp.TheVariants as lamp
use Rattle.codes.specs.declared.refusal.Refusal.TheVariants as refusal
use Rattle.wire.specs.Names.{Session}
use Rattle.source.specs.Meanings.{Meaning}
use Rattle.book.specs.Plain.{Plain, ran}
use Rattle.following.specs.States.{Room, Held, Wanting, State, dark, red, started, lamp_at, lamp_of}
use Rattle.following.specs.Calls.{repair, Reply, repaired, Outcome, refused, accepted}
use Rattle.following.specs.Follower.{
  Place,
  bookless,
  wanting,
  stopped,
  place_of,
  agrees,
  settled,
  going_on,
  run_held,
  run_wanted,
  Mended,
  ends,
  fetching,
  mended,
  unless_waiting,
  while_started,
  while_dark,
  while_red,
  outcome,
}
use Rattle.following.specs.Days.{after, since, highest_in}
use Rattle.following.specs.Law.{HonestRepair, RepairsAreHonest, missing_at, missing_of, FetchesWhatIsMissing}
use Rattle.following.specs.declared.answers.Ending.{Ending}
use Rattle.following.specs.declared.answers.Ending.TheVariants as ending
use Rattle.following.proofs.Held.{missing_count}
use Rattle.following.proofs.Shapes.{Shape, mended_shape}
use Rattle.following.proofs.Standing.{Tidy, tidy}

module _ (room : Room) (source : Meaning) (k : ℕ) where
  -- a book, with the wanted number and the count of what is held adding up to n; or it was stopped
  abbrev pub Reach : ℕ → Place → Type 0
  Reach n (bookless hs) = ⊥
  Reach n (wanting b hs) = b.wanted + length hs ≡ n
  Reach n (stopped i c) = Unit {0}

  run_held_reach : (hs : List Held) (b : Plain) (w n : ℕ) → w + length hs ≡ n → Reach n (run_held room b w hs)
  unfolding run_held
  run_held_reach [] b w n e = e
  run_held_reach (h ∷ hs) b w n e =
      go (eqb h.number w) (ran room.for_book b h.bytes) (λ b'. run_held_reach hs b' (suc w) n (omega arith))
    where
      go :
          (t : Bool) (r : Result Plain Cause) → ((b' : Plain) → Reach n (run_held room b' (suc w) hs)) →
          Reach n (cond t (going_on w r (λ b'. run_held room b' (suc w) hs)) (wanting (record { book = b; wanted = w }) (h ∷ hs)))
      go false r ih = e
      go true (Ok b') ih = ih b'
      go true (Err c) ih = tt

  run_wanted_reach : (hs : List Held) (b : Wanting) (n : ℕ) (x : List ℕ) → b.wanted + length hs ≡ n → Reach (suc n) (run_wanted room b x hs)
  unfolding run_wanted
  run_wanted_reach hs b n x e = go (ran room.for_book b.book x)
    where
      go : (r : Result Plain Cause) → Reach (suc n) (going_on b.wanted r (λ b'. run_held room b' (suc b.wanted) hs))
      go (Ok b') = run_held_reach hs b' (suc b.wanted) (suc n) (omega arith)
      go (Err c) = tt

  -- how a repair may end that has fetched f messages and wants w
  abbrev Ways : ℕ → ℕ → ℕ → Ending → Type 0
  Ways budget f w how =
      ((how ≡ ending.Green) × (k < w))
      ⊎ (((how ≡ ending.Budget) × (f ≡ budget) × (w ≤ k)) ⊎ ((how ≡ ending.NotHeld) × (w ≤ k) × (source.held w ≡ None)))

  abbrev Ended : ℕ → ℕ → ℕ → Place → Ending → Type 0
  Ended budget n f (bookless hs) how = ⊥
  Ended budget n f (wanting b hs) how = (b.wanted + length hs ≡ f + n) × Ways budget f b.wanted how
  Ended budget n f (stopped i c) how = how ≡ ending.Red

  abbrev pub Told : ℕ → ℕ → Mended → Type 0
  Told budget n r = (r.fetched ≤ budget) × Ended budget n r.fetched r.place r.ending

  one_more : (budget n f : ℕ) (p : Place) (how : Ending) → Ended budget (suc n) f p how → Ended (suc budget) n (suc f) p how
  one_more budget n f (wanting b hs) how e = (omega arith, go e.1)
    where
      go : Ways budget f b.wanted how → Ways (suc budget) (suc f) b.wanted how
      go (inl w) = inl w
      go (inr (inl w)) = inr (inl (w.0, omega arith, w.2))
      go (inr (inr w)) = inr (inr w)
  one_more budget n f p how e = e

  pub mended_told : (budget n : ℕ) (p : Place) → Reach n p → Told budget n (mended room source.held k budget p)
  unfolding mended
  mended_told zero n (bookless hs) t = absurd t
  mended_told zero n (stopped i c) t = (omega arith, refl)
  mended_told zero n (wanting b hs) t = go (leb b.wanted k) refl
    where
      go : (u : Bool) → leb b.wanted k ≡ u → Told zero n (ends (wanting b hs) (cond u ending.Budget ending.Green))
      go true q = (omega arith, (omega arith, inr (inl (refl, refl, leb-true b.wanted k q))))
      go false q = (omega arith, (omega arith, inl (refl, leb-false b.wanted k q)))
  mended_told (suc budget) n (bookless hs) t = absurd t
  mended_told (suc budget) n (stopped i c) t = (omega arith, refl)
  mended_told (suc budget) n (wanting b hs) t =
      go (leb b.wanted k) refl (source.held b.wanted) refl
      (λ x. mended_told budget (suc n) (run_wanted room b x hs) (run_wanted_reach hs b n x t))
    where
      go :
          (u : Bool) → leb b.wanted k ≡ u → (o : Option (List ℕ)) → source.held b.wanted ≡ o →
          ((x : List ℕ) → Told budget (suc n) (mended room source.held k budget (run_wanted room b x hs))) →
          Told (suc budget) n
          (cond u (fetching o (wanting b hs) (λ x. mended room source.held k budget (run_wanted room b x hs))) (ends (wanting b hs) ending.Green))
      go false q o r ih = (omega arith, (omega arith, inl (refl, leb-false b.wanted k q)))
      go true q None r ih = (omega arith, (omega arith, inr (inr (refl, leb-true b.wanted k q, r))))
      go true q (Some x) r ih =
          let m = mended room source.held k budget (run_wanted room b x hs) in
          (omega (arith, (ih x).0), one_more budget n m.fetched m.place m.ending (ih x).1)

  gap_at : (b : Wanting) (s : Option Session) (hs : List Held) → b.wanted ≤ k → lamp_of (settled s k (wanting b hs)) ≡ lamp.Gap b.wanted k
  unfolding settled lamp_of
  gap_at b s hs l = rw (le-leb b.wanted k l) refl

  green_at : (b : Wanting) (s : Option Session) (hs : List Held) → k < b.wanted → lamp_of (settled s k (wanting b hs)) ≡ lamp.Green b.wanted
  unfolding settled lamp_of
  green_at b s hs l = rw (lt-leb b.wanted k l) refl

  honest :
      (s : Option Session) (budget n f : ℕ) (p : Place) (how : Ending) → f ≤ budget → Ended budget n f p how →
      HonestRepair source budget (settled s k p) f how
  unfolding settled
  honest s budget n f (bookless hs) how l e = absurd e
  honest s budget n f (stopped i c) how l e =
      record {
        within = l;
        green = λ q. absurd cc;
        stopped = λ q. (i, c, refl);
        only_stopped = λ j d q. e;
        spent = λ q. absurd cc;
        lacking = λ q. absurd cc;
      }
  honest s budget n f (wanting b hs) how l e = go e.1
    where
      go : Ways budget f b.wanted how → HonestRepair source budget (settled s k (wanting b hs)) f how
      go (inl w) =
          let h : how ≡ ending.Green = w.0 in
          record {
            within = l;
            green = λ q. (b.wanted, green_at b s hs w.1);
            stopped = λ q. absurd cc;
            only_stopped = λ j d q. absurd cc;
            spent = λ q. absurd cc;
            lacking = λ q. absurd cc;
          }
      go (inr (inl w)) =
          let h : how ≡ ending.Budget = w.0 in
          record {
            within = l;
            green = λ q. absurd cc;
            stopped = λ q. absurd cc;
            only_stopped = λ j d q. absurd cc;
            spent = λ q. (w.1, (b.wanted, k, gap_at b s hs w.2));
            lacking = λ q. absurd cc;
          }
      go (inr (inr w)) =
          let h : how ≡ ending.NotHeld = w.0 in
          record {
            within = l;
            green = λ q. absurd cc;
            stopped = λ q. absurd cc;
            only_stopped = λ j d q. absurd cc;
            spent = λ q. absurd cc;
            lacking = λ q. (b.wanted, k, gap_at b s hs w.1, w.2);
          }

-- as many messages are missing as the numbers up to the highest heard lack
missing_left : (b : Wanting) (hs : List Held) (k : ℕ) → Shape k (wanting b hs) → missing_at (Some b) hs k + (b.wanted + length hs) ≡ suc k
missing_left b hs k o =
    omega (arith, missing_count (suc k - b.wanted) b.wanted b.wanted k hs (omega arith) (omega arith) o.1, o.0)

-- what is fetched is missing no more
fetched_left :
    (room : Room) (source : Meaning) (s : Option Session) (b : Wanting) (hs : List Held) (k budget f : ℕ) (p : Place) (how : Ending) →
    Shape k (wanting b hs) → Shape k p → Ended room source k budget (b.wanted + length hs) f p how → (how ≡ ending.Red → ⊥) →
    f + missing_of (settled s k p) ≡ missing_at (Some b) hs k
unfolding settled
fetched_left room source s b hs k budget f (bookless hs') how o o' e n = absurd e
fetched_left room source s b hs k budget f (stopped i c) how o o' e n = absurd (n e)
fetched_left room source s b hs k budget f (wanting b' hs') how o o' e n =
    omega (arith, missing_left b hs k o, missing_left b' hs' k o', e.0)

-- P holds of what an outcome answers of a repair
module _ (P : State → ℕ → Ending → Type 0) where
  abbrev Replied : State → Reply → Type 0
  Replied next (repaired fetched how) = P next fetched how
  Replied next reply = Unit {0}

  abbrev So : Outcome → Type 0
  So (refused why) = Unit {0}
  So (accepted next reply) = Replied next reply

  when_agreed : (t : Bool) (o : Outcome) → So o → So (cond t o (refused refusal.OtherSession))
  when_agreed true o a = a
  when_agreed false o a = tt

  -- a repair without a book, or with nothing heard, is refused
  with_book :
      (room : Room) (b : Option Wanting) (heard : Bool) (k : ℕ) (o : Outcome) → ((v : Wanting) → b ≡ Some v → So o) →
      So (unless_waiting room (lamp_at b heard k) o)
  with_book room None heard k o a = tt
  with_book room (Some b) false k o a = tt
  with_book room (Some b) true k o a = go (leb b.wanted k)
    where
      go : (t : Bool) → So (unless_waiting room (cond t (lamp.Gap b.wanted k) (lamp.Green b.wanted)) o)
      go true = a b refl
      go false = a b refl

module _ (room : Room) (source : Meaning) (budget : ℕ) where
  -- what a repair tells, from the place where it begins
  told : (k : ℕ) (b : Wanting) (hs : List Held) → Told room source k budget (b.wanted + length hs) (mended room source.held k budget (wanting b hs))
  told k b hs = mended_told room source k budget (b.wanted + length hs) (wanting b hs) refl

  every_honest : (s : State) → So (HonestRepair source budget) (outcome room s (repair source budget))
  unfolding outcome while_started while_dark while_red
  every_honest dark = tt
  every_honest (red k c) = tt
  every_honest (started s) =
      when_agreed (HonestRepair source budget) (agrees s.session source.session) _
      (with_book (HonestRepair source budget) room s.book s.heard s.highest _
      (λ b e. rw e (honest room source s.highest (Some source.session) budget (b.wanted + length s.held) _ _ _
      (told s.highest b s.held).0 (told s.highest b s.held).1)))

  abbrev Fetched : ℕ → State → ℕ → Ending → Type 0
  Fetched before next fetched how = (how ≡ ending.Red → ⊥) → fetched + missing_of next ≡ before

  every_fetched : (top : ℕ) (s : State) → Tidy top s → So (Fetched (missing_of s)) (outcome room s (repair source budget))
  unfolding outcome while_started while_dark while_red
  every_fetched top dark t = tt
  every_fetched top (red k c) t = tt
  every_fetched top (started s) t =
      when_agreed (Fetched (missing_of (started s))) (agrees s.session source.session) _
      (with_book (Fetched (missing_of (started s))) room s.book s.heard s.highest _
      (λ b e.
      let o : Shape s.highest (wanting b s.held) = subst (λ x. Shape s.highest (place_of x s.held)) e t.1 in
      rw e
      (fetched_left room source (Some source.session) b s.held s.highest budget _ _ _ o
      (mended_shape room source.held s.highest budget (wanting b s.held) o) (told s.highest b s.held).1)))

pub repairs_are_honest : RepairsAreHonest
repairs_are_honest room state next source budget fetched how e =
    subst (So (HonestRepair source budget)) e (every_honest room source budget state)

pub fetches_what_is_missing : FetchesWhatIsMissing
fetches_what_is_missing room history next source budget fetched how e =
    subst (So (Fetched room source budget (missing_of (after room history)))) e
    (every_fetched room source budget (highest_in room (since room history)) (after room history) (tidy room history))
