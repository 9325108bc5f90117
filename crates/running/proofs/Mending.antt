-- The turns of a repair.
use Rattle.std.proofs.Common.{◌≡◌, ℕ, suc, ◌+◌, ◌≤◌, List, length, take, drop, Some, None, Ok, Err, Option, Result, sym, refl, ap, ◌∙◌, subst, arith}
use Rattle.std.proofs.lemmas.List.{take_at}
use Rattle.std.proofs.lemmas.Bool.{le-leb}
use Rattle.std.specs.Option.{ok_or, unwrap_or}
use Rattle.std.specs.Result.{result_err}
use Rattle.source.specs.Meanings.{Meaning, answer, written}
use Rattle.following.specs.States.{Room, Held, Wanting}
use Rattle.following.specs.Follower.{Place, wanting, Mended, ends, fetched_one, run_wanted, mended}
use Rattle.following.specs.declared.answers.Ending.{Ending}
use Rattle.following.specs.declared.answers.Ending.TheVariants as ending
use Rattle.running.specs.declared.runner.Runner.{Runner}
use Rattle.running.specs.declared.moves.Wanted.{Wanted as WantedOf}
use Rattle.running.specs.Runners.{book_in, held_in, Reached, place_in, Missing, Fetched}

-- so many messages were fetched before
abbrev pub added_to : ℕ → Mended → Mended
added_to n m = record { place = m.place; fetched = n + m.fetched; ending = m.ending }

pub added_none : (m : Mended) → m ≡ added_to 0 m
added_none m = ap (λ n. record { place = m.place; fetched = n; ending = m.ending }) (omega arith)

-- the repair ends here, or one more message is fetched
module _ (whole : Mended) (n : ℕ) (rest : Mended) (far : whole ≡ added_to n rest) where
  pub ended : (place : Place) (how : Ending) → rest ≡ ends place how → record { place = place; fetched = n; ending = how } ≡ whole
  ended place how e =
      ap (λ k. record { place = place; fetched = k; ending = how }) (omega arith) ∙ ap (added_to n) (sym e) ∙ sym far

  pub further : (next : Mended) → rest ≡ fetched_one next → whole ≡ added_to (n + 1) next
  further next e =
      far ∙ ap (added_to n) e ∙ ap (λ k. record { place = next.place; fetched = k; ending = next.ending }) (omega arith)

abbrev value : Option ℕ → ℕ
value None = 0
value (Some n) = n

-- what a fetch that answers a length has written at the front
pub fetched : (h : Option (List ℕ)) (n : ℕ) (before after : List ℕ) → Some n ≡ answer h → after ≡ written h before → h ≡ Some (take n after)
fetched None n before after e w = absurd cc
fetched (Some m) n before after e w =
    let k : n ≡ length m = ap value e in
    ap Some (sym (ap (take n) w ∙ take_at m (drop (length m) before) n (sym k)))

pub missed : (h : Option (List ℕ)) → None ≡ answer h → h ≡ None
missed None e = refl
missed (Some m) e = absurd cc

-- a fetch that answers no length, in the words of a repair
pub not_lent : (o : Option ℕ) (r : Result ℕ Ending) (how e : Ending) → r ≡ ok_or o how → r ≡ Err e → (o ≡ None) × (e ≡ how)
not_lent None r how e v q = (refl, cc)
not_lent (Some n) r how e v q = absurd cc

-- a fetch with the same slots and the same meaning
pub fetched_at :
    (room room' : Room) (m m' : Meaning) (k : ℕ) (place : Place) (at : Reached) (after : Runner) (r : Result Reached Ending) → room ≡ room' → m ≡ m' →
    Fetched room m.held k place at after r → Fetched room' m'.held k place at after r
fetched_at room room' m m' k place at after r e q h =
    subst (λ x. Fetched x m'.held k place at after r) e (subst (λ x. Fetched room x.held k place at after r) q h)

module _ (room : Room) (held : ℕ → Option (List ℕ)) (k : ℕ) where
  module _ (w : Wanting) (hs : List Held) where
    pub at_budget : w.wanted ≤ k → mended room held k 0 (wanting w hs) ≡ ends (wanting w hs) ending.Budget
    unfolding mended
    at_budget l = simp (le-leb w.wanted k l)

    pub at_missing : (b : ℕ) → w.wanted ≤ k → held w.wanted ≡ None → mended room held k (suc b) (wanting w hs) ≡ ends (wanting w hs) ending.NotHeld
    unfolding mended
    at_missing b l e = simp (le-leb w.wanted k l, e)

    pub at_more :
        (b : ℕ) (m : List ℕ) → w.wanted ≤ k → held w.wanted ≡ Some m →
        mended room held k (suc b) (wanting w hs) ≡ fetched_one (mended room held k b (run_wanted room w m hs))
    unfolding mended
    at_more b m l e = simp (le-leb w.wanted k l, e)

  -- by where the messages have led
  module _ (runner : Runner) (at : Reached) where
    module _ (w : WantedOf) (e : at ≡ Ok (Some w)) where
      abbrev here : Wanting
      here = record { book = book_in runner; wanted = w.number }

      -- what is so of the book that wants a number
      from_here : (b : ℕ) (how : Ending) → mended room held k b (wanting here (held_in runner)) ≡ ends (wanting here (held_in runner)) how → mended room held k b (place_in runner at) ≡ ends (place_in runner at) how
      from_here b how h = ap (λ r. mended room held k b (place_in runner r)) e ∙ h ∙ ap (λ r. ends (place_in runner r) how) (sym e)

      pub found_budget : w.number ≤ k → mended room held k 0 (place_in runner at) ≡ ends (place_in runner at) ending.Budget
      found_budget l = from_here 0 ending.Budget (at_budget here (held_in runner) l)

      pub found_missing : w.number ≤ k → held w.number ≡ None → (b : ℕ) → mended room held k (suc b) (place_in runner at) ≡ ends (place_in runner at) ending.NotHeld
      found_missing l m b = from_here (suc b) ending.NotHeld (at_missing here (held_in runner) b l m)

      pub found_more :
          (m : List ℕ) (after : Place) → w.number ≤ k → held w.number ≡ Some m → after ≡ run_wanted room here m (held_in runner) →
          (b : ℕ) → mended room held k (suc b) (place_in runner at) ≡ fetched_one (mended room held k b after)
      found_more m after l h r b =
          ap (λ x. mended room held k (suc b) (place_in runner x)) e
          ∙ at_more here (held_in runner) b m l h
          ∙ ap (λ p. fetched_one (mended room held k b p)) (sym r)

    -- with the budget spent
    pub found_spent : (m : Result WantedOf Ending) → Missing k at m → mended room held k 0 (place_in runner at) ≡ ends (place_in runner at) (unwrap_or (result_err m) ending.Budget)
    found_spent (Ok w) h = found_budget w h.0 h.1
    found_spent (Err how) h = h runner room held 0
