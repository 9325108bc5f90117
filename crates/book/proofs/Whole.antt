-- The laws of whole runs.
use Rattle.std.proofs.Common.{◌≡◌, ℕ, zero, suc, ◌<◌, ◌≤◌, true, List, [], ◌∷◌, length, get_or, Some, None, Ok, Err, Option, Result, sym, refl, ap, subst, arith}
use Rattle.std.specs.Ordering.{is_lt}
use Rattle.std.proofs.ByRecursion.{All-weaker}
use Rattle.std.proofs.lemmas.Bool.{and_parts}
use Rattle.std.proofs.lemmas.Bool.Decides.{nat_tests}
use Rattle.codes.specs.declared.cause.Cause.{Cause}
use Rattle.wire.specs.Messages.{Said, second, other, Told, said, end, feed_message, snapshot_message}
use Rattle.wire.specs.Numbers.{most32, most_price}
use Rattle.wire.specs.declared.order.OrderRow.{OrderRow}
use Rattle.table.specs.Rows.{above, ordered}
use Rattle.book.specs.Keys.{reference_of, by_number, within}
use Rattle.book.specs.Plain.{Plain, Slots, empty, done, going, done_there_if_read, ran, ran_there}
use Rattle.book.specs.Runs.{run_on, run_there, and_then, unless_ended, Sound, RunsSound, SnapshotsSound, SecondsIdle, OthersIdle}
use Rattle.book.proofs.Fields.{Fine, said_fine, told_fine}
use Rattle.book.proofs.Live.{IsWithin, each_within}
use Rattle.book.proofs.Kept.{Good, good_empty, good_done}

shares_within : (order : OrderRow) → within order ≡ true → (1 ≤ order.shares) × (order.shares ≤ most32)
shares_within order w = (grind (arith, nat_tests), grind (arith, nat_tests))

price_within : (order : OrderRow) → within order ≡ true → (1 ≤ order.price) × (order.price ≤ most_price)
price_within order w = (grind (arith, nat_tests), grind (arith, nat_tests))

above_lt : (q : ℕ) (xs : List OrderRow) → above reference_of by_number q xs ≡ true → (j : ℕ) (d : OrderRow) → j < length xs → q < (get_or xs j d).reference
above_lt q [] h j d l = absurd (omega arith)
above_lt q (x ∷ xs) h zero d l = let t = (and_parts (is_lt (by_number q x.reference)) (above reference_of by_number q xs) h).0 in grind (arith, nat_tests)
above_lt q (x ∷ xs) h (suc j) d l = above_lt q xs (and_parts (is_lt (by_number q x.reference)) (above reference_of by_number q xs) h).1 j d (omega arith)

rising_at : (xs : List OrderRow) → ordered reference_of by_number xs ≡ true → (i j : ℕ) (d : OrderRow) → i < j → j < length xs → (get_or xs i d).reference < (get_or xs j d).reference
rising_at [] o i j d h l = absurd (omega arith)
rising_at (x ∷ xs) o i zero d h l = absurd (omega arith)
rising_at (x ∷ xs) o zero (suc j) d h l = above_lt x.reference xs (and_parts (above reference_of by_number x.reference xs) (ordered reference_of by_number xs) o).0 j d (omega arith)
rising_at (x ∷ xs) o (suc i) (suc j) d h l = rising_at xs (and_parts (above reference_of by_number x.reference xs) (ordered reference_of by_number xs) o).1 i j d (omega arith) (omega arith)

sound : (slots : Slots) (book : Plain) → Good slots book → Sound slots book
sound slots book good =
    record {
      some_shares = All-weaker IsWithin _ shares_within book.orders (each_within book.orders good.limits);
      priced = All-weaker IsWithin _ price_within book.orders (each_within book.orders good.limits);
      ascending = rising_at book.orders good.rising;
      listed = good.listed;
      stocks_fit = good.stocks_fit;
      orders_fit = good.orders_fit;
    }

good_ran : (slots : Slots) (book : Plain) (m : List ℕ) (next : Plain) → Good slots book → ran slots book m ≡ Ok next → Good slots next
unfolding ran
good_ran slots book m next good e = go (feed_message m) refl e
  where
    go : (r : Result Said Cause) → feed_message m ≡ r → and_then r (done slots book) ≡ Ok next → Good slots next
    go (Ok what) p h = good_done slots book good what next (said_fine m what p) h
    go (Err cause) p h = absurd cc

good_on : (slots : Slots) (ms : List (List ℕ)) (book last : Plain) → Good slots book → run_on slots ms book ≡ Ok last → Good slots last
unfolding run_on
good_on slots [] book last good e = let is : book ≡ last = cc in subst (Good slots) is good
good_on slots (m ∷ ms) book last good e = go (good_on slots ms) (ran slots book m) refl e
  where
    go : ((next end : Plain) → Good slots next → run_on slots ms next ≡ Ok end → Good slots end) → (r : Result Plain Cause) → ran slots book m ≡ r → and_then r (run_on slots ms) ≡ Ok last → Good slots last
    go on (Ok next) p h = on next last (good_ran slots book m next good p) h
    go on (Err cause) p h = absurd cc

pub runs_sound : RunsSound
runs_sound slots ms book e = sound slots book (good_on slots ms empty book (good_empty slots) e)

good_there : (slots : Slots) (book : Plain) (m : List ℕ) (t : Option ℕ × Plain) → Good slots book → ran_there slots book m ≡ Ok t → Good slots t.1
unfolding ran_there
good_there slots book m t good e = go (snapshot_message m) refl e
  where
    did : (what : Said) → Fine what → (r : Result Plain Cause) → done slots book what ≡ r → going r ≡ Ok t → Good slots t.1
    did what fine (Ok next) p h =
        let is : (None, next) ≡ t = cc in
        subst (λ (u : Option ℕ × Plain). Good slots u.1) is (good_done slots book good what next fine p)
    did what fine (Err cause) p h = absurd cc

    go : (r : Result Told Cause) → snapshot_message m ≡ r → done_there_if_read slots book r ≡ Ok t → Good slots t.1
    go (Ok (said what)) p h = did what (told_fine m what p) (done slots book what) refl h
    go (Ok (end next)) p h =
        let is : (Some next, book) ≡ t = cc in
        subst (λ (u : Option ℕ × Plain). Good slots u.1) is good
    go (Err cause) p h = absurd cc

good_on_there : (slots : Slots) (ms : List (List ℕ)) (book : Plain) (last : Option ℕ × Plain) → Good slots book → run_there slots ms book ≡ Ok last → Good slots last.1
unfolding run_there
good_on_there slots [] book last good e =
    let is : (None, book) ≡ last = cc in
    subst (λ (u : Option ℕ × Plain). Good slots u.1) is good
good_on_there slots (m ∷ ms) book last good e = go (good_on_there slots ms) (ran_there slots book m) refl e
  where
    at : ((next : Plain) (end : Option ℕ × Plain) → Good slots next → run_there slots ms next ≡ Ok end → Good slots end.1) → (t : Option ℕ × Plain) → Good slots t.1 → unless_ended (run_there slots ms) t ≡ Ok last → Good slots last.1
    at on (None, next) g h = on next last g h
    at on (Some n, next) g h =
        let is : (Some n, next) ≡ last = cc in
        subst (λ (u : Option ℕ × Plain). Good slots u.1) is g

    go : ((next : Plain) (end : Option ℕ × Plain) → Good slots next → run_there slots ms next ≡ Ok end → Good slots end.1) → (r : Result (Option ℕ × Plain) Cause) → ran_there slots book m ≡ r → and_then r (unless_ended (run_there slots ms)) ≡ Ok last → Good slots last.1
    go on (Ok t) p h = at on t (good_there slots book m t good p) h
    go on (Err cause) p h = absurd cc

pub snapshots_sound : SnapshotsSound
snapshots_sound slots ms next book e = sound slots book (good_on_there slots ms empty (next, book) (good_empty slots) e)

-- a message that was read is done
ran_read : (slots : Slots) (book : Plain) (m : List ℕ) (what : Said) → Ok what ≡ feed_message m → done slots book what ≡ ran slots book m
unfolding ran
ran_read slots book m what e = ap (λ r. and_then r (done slots book)) e

read_second : (m : List ℕ) → length m ≡ 5 → get_or m 4 0 ≡ 84 → Ok second ≡ feed_message m
unfolding feed_message
read_second m l t = grind (arith, nat_tests)

pub seconds_idle : SecondsIdle
seconds_idle slots book m l t = sym (ran_read slots book m second (read_second m l t))

read_other : (m : List ℕ) → 5 ≤ length m → (get_or m 4 0 ≡ 84 → ⊥) → (get_or m 4 0 ≡ 83 → ⊥) → (get_or m 4 0 ≡ 72 → ⊥) → (get_or m 4 0 ≡ 65 → ⊥) → (get_or m 4 0 ≡ 69 → ⊥) → (get_or m 4 0 ≡ 88 → ⊥) → Ok other ≡ feed_message m
unfolding feed_message
read_other m l t s h a e x = grind (arith, nat_tests)

pub others_idle : OthersIdle
others_idle slots book m l t s h a e x = sym (ran_read slots book m other (read_other m l t s h a e x))
