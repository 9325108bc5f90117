-- An order that a message adds is within the limits.
use Rattle.std.proofs.Common.{◌≡◌, ℕ, Bool, true, false, cond, ◌&&◌, ◌||◌, eqb, ltb, leb, List, length, get_or, Some, None, Ok, Err, Option, Result, sym, refl, ap, ◌∙◌, subst}
use Rattle.codes.specs.declared.cause.Cause.{Cause}
use Rattle.codes.specs.declared.cause.Cause.TheVariants.{Length, Field, InSnapshot}
use Rattle.codes.specs.declared.side.Side.{Side}
use Rattle.codes.specs.Codes.{side_of, event_of, status_of}
use Rattle.wire.specs.Names.{symbol_of}
use Rattle.wire.specs.Messages.{Said, second, event, status, add, execute, cancel, other, Told, said, end, checked, listed, with_symbol, sided, shares_off, of_length, end_at, part, feed_message, snapshot_message}
use Rattle.wire.specs.Answers.{through}
use Rattle.wire.specs.Numbers.{be32, be64, most32}
use Rattle.wire.specs.declared.order.OrderRow.{OrderRow}
use Rattle.wire.specs.Names.{Symbol}
use Rattle.book.specs.Keys.{within}

-- what a message says is in order: an order that it adds is within the limits
abbrev pub Fine : Said → Type 0
Fine (add order) = within order ≡ true
Fine what = Unit {0}

record Read (r : Result Said Cause) : Type 0 where
  fine : (what : Said) → r ≡ Ok what → Fine what

record Row (o : Option OrderRow) : Type 0 where
  fine : (order : OrderRow) → o ≡ Some order → within order ≡ true

no_cause : (cause : Cause) → Read (Err cause)
no_cause cause = record { fine = λ what e. absurd cc }

reads : (what : Said) → Fine what → Read (Ok what)
reads what p = record { fine = λ other_one e. let s : what ≡ other_one = cc in subst Fine s p }

no_row : Row None
no_row = record { fine = λ order e. absurd cc }

one_of : (b : Bool) (x y : Result Said Cause) → Read x → Read y → Read (cond b x y)
one_of true x y p q = p
one_of false x y p q = q

row_if : (b : Bool) (x : Option OrderRow) → Row x → Row (cond b x None)
row_if true x p = p
row_if false x p = no_row

row_checked : (order : OrderRow) → Row (checked order)
row_checked order = go (within order) refl
  where
    go : (b : Bool) → within order ≡ b → Row (cond b (Some order) None)
    go true p = record { fine = λ same e. let s : order ≡ same = cc in ap within (sym s) ∙ p }
    go false p = no_row

listed_fine : {X : Type 0} (say : X → Said) → ((x : X) → Fine (say x)) → (o : Option X) → Read (listed say o)
listed_fine say fine None = no_cause Field
listed_fine say fine (Some x) = reads (say x) (fine x)

added_fine : (o : Option OrderRow) → Row o → Read (listed add o)
added_fine None p = no_cause Field
added_fine (Some order) p = reads (add order) (p.fine order refl)

symbol_fine : (o : Option Symbol) (say : Symbol → Result Said Cause) → ((s : Symbol) → Read (say s)) → Read (with_symbol o say)
symbol_fine None say fine = no_cause Length
symbol_fine (Some s) say fine = fine s

sided_fine : (symbol : Symbol) (m : List ℕ) (o : Option Side) → Row (sided symbol m o)
sided_fine symbol m None = no_row
sided_fine symbol m (Some side) =
    row_if (eqb (get_or m 28 0) 89) _ (row_checked (record { reference = be32 m 5; side = side; shares = be32 m 10; symbol = symbol; price = be64 m 20 }))

by_letter : (m : List ℕ) (k n : ℕ) (x y : Result Said Cause) → Read x → Read y → Read (cond (eqb (get_or m 4 0) k) (of_length n m x) y)
by_letter m k n x y p q = one_of (eqb (get_or m 4 0) k) (of_length n m x) y (one_of (eqb (length m) n) x (Err Length) p (no_cause Length)) q

read_fine : (m : List ℕ) → Read (feed_message m)
unfolding feed_message
read_fine m =
    one_of (ltb (length m) 5) (Err Length) _ (no_cause Length)
    (by_letter m 84 5 _ _ (reads second tt)
    (by_letter m 83 6 _ _ (listed_fine event (λ _. tt) (event_of (get_or m 5 0)))
    (by_letter m 72 13 _ _ (symbol_fine (symbol_of (part 5 6 m)) _ (λ s. listed_fine (status s) (λ _. tt) (status_of (get_or m 11 0))))
    (by_letter m 65 29 _ _ (symbol_fine (symbol_of (part 14 6 m)) _ (λ s. added_fine _ (sided_fine s m (side_of (get_or m 9 0)))))
    (by_letter m 69 22 _ _ (listed_fine (λ t. execute t.0 t.1) (λ _. tt) (shares_off m))
    (by_letter m 88 13 _ _ (listed_fine (λ t. cancel t.0 t.1) (λ _. tt) (shares_off m)) (reads other tt)))))))

pub said_fine : (m : List ℕ) (what : Said) → feed_message m ≡ Ok what → Fine what
said_fine m what e = (read_fine m).fine what e

record ReadThere (r : Result Told Cause) : Type 0 where
  fine : (what : Said) → r ≡ Ok (said what) → Fine what

no_cause_there : (cause : Cause) → ReadThere (Err cause)
no_cause_there cause = record { fine = λ what e. absurd cc }

end_there : (next : ℕ) → ReadThere (Ok (end next))
end_there next = record { fine = λ what e. absurd cc }

one_there : (b : Bool) (x y : Result Told Cause) → ReadThere x → ReadThere y → ReadThere (cond b x y)
one_there true x y p q = p
one_there false x y p q = q

through_fine : (r : Result Said Cause) → Read r → ReadThere (through said r)
through_fine (Ok this) p = record { fine = λ what e. let s : this ≡ what = cc in subst Fine s (p.fine this refl) }
through_fine (Err cause) p = no_cause_there cause

end_fine : (m : List ℕ) → ReadThere (of_length 9 m (end_at m))
end_fine m =
    one_there (eqb (length m) 9) (end_at m) (Err Length)
    (one_there (leb 1 (be32 m 5) && leb (be32 m 5) most32) (Ok (end (be32 m 5))) (Err Field) (end_there (be32 m 5)) (no_cause_there Field))
    (no_cause_there Length)

read_there_fine : (m : List ℕ) → ReadThere (snapshot_message m)
unfolding snapshot_message
read_there_fine m =
    one_there (ltb (length m) 5) (Err Length) _ (no_cause_there Length)
    (one_there (eqb (get_or m 4 0) 69 || eqb (get_or m 4 0) 88) (Err InSnapshot) _ (no_cause_there InSnapshot)
    (one_there (eqb (get_or m 4 0) 71) (of_length 9 m (end_at m)) _ (end_fine m) (through_fine (feed_message m) (read_fine m))))

pub told_fine : (m : List ℕ) (what : Said) → snapshot_message m ≡ Ok (said what) → Fine what
told_fine m = (read_there_fine m).fine
