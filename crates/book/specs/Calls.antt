-- What a call does to a book of the code.
use Rattle.std.specs.Prelude.{◌≡◌, ℕ, false, is_ok, Option, Result}
use Rattle.codes.specs.declared.cause.Cause.{Cause}
use Rattle.wire.specs.Answers.{through}
use Rattle.book.specs.declared.book.Book.{Book}
use Rattle.book.specs.Books.{plain, slots}
use Rattle.book.specs.Plain.{Plain}

-- the answer, told with the book that is left, is the one that is due; where a cause stops the call, the book is as it was; the slots stay
pub record Did {X Y : Type 0} (tell : X → Plain → Y) (old new : Book) (result : Result X Cause) (due : Result Y Cause) : Type 0 where
  pub answer : through (λ x. tell x (plain new)) result ≡ due
  pub stopped : is_ok result ≡ false → plain new ≡ plain old
  pub slots : slots new ≡ slots old

-- a message of the feed
abbrev pub Ran : Book → Book → Result (Unit {0}) Cause → Result Plain Cause → Type 0
Ran = Did (λ _ book. book)

-- a message of a snapshot, whose End tells the next number
abbrev pub RanThere : Book → Book → Result (Option ℕ) Cause → Result (Option ℕ × Plain) Cause → Type 0
RanThere = Did (λ next book. (next, book))
