-- The lamp of a follower of the code, and its answers to questions.
use Rattle.std.proofs.Common.{◌≡◌, ℕ, Bool, List, Some, None, Ok, Err, Option, Result, sym, refl, ap, ◌∙◌, Bor}
use Rattle.codes.specs.declared.lamp.Lamp.{Lamp}
use Rattle.codes.specs.declared.lamp.Lamp.TheVariants as lamp
use Rattle.codes.specs.declared.refusal.Refusal.{Refusal}
use Rattle.codes.specs.declared.refusal.Refusal.TheVariants as refusal
use Rattle.codes.specs.declared.short.ShortSell.{ShortSell}
use Rattle.codes.specs.declared.side.Side.{Side}
use Rattle.codes.specs.declared.trading.Trading.{Trading}
use Rattle.wire.specs.Answers.{through}
use Rattle.wire.specs.Names.{symbol_of}
use Rattle.wire.specs.Names.{Symbol}
use Rattle.book.specs.Plain.{Plain}
use Rattle.book.specs.Questions.{event_in, states_of, orders_of, counted, filled}
use Rattle.book.specs.declared.rows.BookRow.{BookRow}
use Rattle.following.specs.States as plain
use Rattle.following.specs.States.{Room, Held, Wanting, lamp_at, lamp_of}
use Rattle.following.specs.Calls as calls
use Rattle.following.specs.Calls.{Reply, ask, answered, told, refused, of_stock}
use Rattle.following.specs.Follower.{outcome, while_started, on_question}
use Rattle.running.specs.declared.moves.Wanted.{Wanted as WantedOf}
use Rattle.follower.specs.declared.call.Answer.{Answer}
use Rattle.follower.specs.declared.call.Answer.TheVariants as answer
use Rattle.follower.specs.declared.call.Question.{Question}
use Rattle.follower.specs.declared.call.Question.TheVariants as question
use Rattle.follower.specs.declared.state.State.{State}
use Rattle.follower.specs.declared.state.State.TheVariants as state
use Rattle.follower.specs.declared.state.Started.{Started}
use Rattle.follower.specs.Modelled.{wanting_at, is_heard, highest_of, modelled}
use Rattle.follower.specs.Model.{question_of, answer_of, rows_after}
use Rattle.follower.specs.Steps.{replied, rows_replied, started_in}

-- the orders of a reply, as their number and in the lent rows
counts : (o : Result (List BookRow) Refusal) → through answer.Orders (counted o) ≡ replied (through calls.orders_are o)
counts (Ok rows) = refl
counts (Err why) = refl

fills : (o : Result (List BookRow) Refusal) (rows : List BookRow) → filled o rows ≡ rows_replied (through calls.orders_are o) rows
fills (Ok found) rows = refl
fills (Err why) rows = refl

-- what the book answers to a question of the code with n lent rows
module _ (book : Plain) (q : Question) (n : ℕ) where
  pub answers_event : q ≡ question.Event → Ok (calls.event_is (event_in book)) ≡ answered book (question_of q n)
  unfolding answered
  answers_event e = ap (λ x. answered book (question_of x n)) (sym e)

  module _ (bytes : Bor (List ℕ)) (is : q ≡ question.States bytes) where
    pub no_states : None ≡ symbol_of bytes.now → Err refusal.NoStock ≡ answered book (question_of q n)
    unfolding answered
    no_states e = ap (λ o. through calls.states_are (of_stock o (states_of book))) e ∙ ap (λ x. answered book (question_of x n)) (sym is)

    pub answers_states :
        (symbol : Symbol) (r : Result (Option Trading × Option ShortSell) Refusal) → Some symbol ≡ symbol_of bytes.now → r ≡ states_of book symbol →
        through calls.states_are r ≡ answered book (question_of q n)
    unfolding answered
    answers_states symbol r e f =
        ap (through calls.states_are) f
        ∙ ap (λ o. through calls.states_are (of_stock o (states_of book))) e
        ∙ ap (λ x. answered book (question_of x n)) (sym is)

  module _ (bytes : Bor (List ℕ)) (side : Side) (is : q ≡ question.Orders bytes side) where
    pub no_orders : None ≡ symbol_of bytes.now → Err refusal.NoStock ≡ answered book (question_of q n)
    unfolding answered
    no_orders e = ap (λ o. through calls.orders_are (of_stock o (λ s. orders_of book s side n))) e ∙ ap (λ x. answered book (question_of x n)) (sym is)

    answers_orders : (symbol : Symbol) → Some symbol ≡ symbol_of bytes.now → through calls.orders_are (orders_of book symbol side n) ≡ answered book (question_of q n)
    unfolding answered
    answers_orders symbol e =
        ap (λ o. through calls.orders_are (of_stock o (λ s. orders_of book s side n))) e ∙ ap (λ x. answered book (question_of x n)) (sym is)

    module _ (symbol : Symbol) (e : Some symbol ≡ symbol_of bytes.now) where
      pub counts_orders : (r : Result ℕ Refusal) → r ≡ counted (orders_of book symbol side n) → through answer.Orders r ≡ replied (answered book (question_of q n))
      counts_orders r f = ap (through answer.Orders) f ∙ counts (orders_of book symbol side n) ∙ ap replied (answers_orders symbol e)

      pub fills_orders : (before after : List BookRow) → after ≡ filled (orders_of book symbol side n) before → after ≡ rows_replied (answered book (question_of q n)) before
      fills_orders before after f = f ∙ fills (orders_of book symbol side n) before ∙ ap (λ r. rows_replied r before) (answers_orders symbol e)

-- a reply of the book as the outcome of a call
answer_told : (s : plain.State) (r : Result Reply Refusal) → replied r ≡ answer_of (told s r)
answer_told s (Ok reply) = refl
answer_told s (Err why) = refl

rows_told : (s : plain.State) (r : Result Reply Refusal) (rows : List BookRow) → rows_replied r rows ≡ rows_after (told s r) rows
rows_told s (Ok reply) rows = refl
rows_told s (Err why) rows = refl

module _ (room : Room) (book : Plain) (q : calls.Question) where
  -- where the lamp is green there is a book
  green_book :
      (s : plain.State) (wanted : Option WantedOf) (heard : Bool) (highest w : ℕ) → lamp.Green w ≡ lamp_at (wanting_at wanted book) heard highest →
      told s (answered book q) ≡ on_question room (lamp_at (wanting_at wanted book) heard highest) (wanting_at wanted book) s q
  green_book s None heard highest w e = absurd cc
  green_book s (Some v) heard highest w e = ap (λ l. on_question room l (Some (record { book = book; wanted = v.number })) s q) e

  not_green :
      (s : plain.State) (b : Option Wanting) (l : Lamp) → ((w : ℕ) → l ≡ lamp.Green w → ⊥) → refused (refusal.NotGreen l) ≡ on_question room l b s q
  not_green s b (lamp.Green wanted) n = absurd (n wanted refl)
  not_green s b shown n = refl

  module _ (held : List Held) where
    asked_green :
        (s : State) (x : Started) (w : ℕ) → Ok x ≡ started_in s → lamp.Green w ≡ lamp_of (modelled s book held) →
        told (modelled s book held) (answered book q) ≡ outcome room (modelled s book held) (ask q)
    unfolding lamp_of outcome while_started
    asked_green state.Dark x w i e = absurd cc
    asked_green (state.Red stop) x w i e = absurd cc
    asked_green (state.Started t) x w i e = green_book (modelled (state.Started t) book held) t.wanted (is_heard t.heard) (highest_of t.heard) w e

    module _ (s : State) (x : Started) (w : ℕ) (i : Ok x ≡ started_in s) (e : lamp.Green w ≡ lamp_of (modelled s book held)) where
      pub answer_green : (r : Result Answer Refusal) → r ≡ replied (answered book q) → r ≡ answer_of (outcome room (modelled s book held) (ask q))
      answer_green r f = f ∙ answer_told (modelled s book held) (answered book q) ∙ ap answer_of (asked_green s x w i e)

      pub rows_green : (before after : List BookRow) → after ≡ rows_replied (answered book q) before → after ≡ rows_after (outcome room (modelled s book held) (ask q)) before
      rows_green before after f = f ∙ rows_told (modelled s book held) (answered book q) before ∙ ap (λ o. rows_after o before) (asked_green s x w i e)

    pub asked_else :
        (s : State) (x : Started) (l : Lamp) → Ok x ≡ started_in s → l ≡ lamp_of (modelled s book held) → ((w : ℕ) → l ≡ lamp.Green w → ⊥) →
        refused (refusal.NotGreen l) ≡ outcome room (modelled s book held) (ask q)
    unfolding lamp_of outcome while_started
    asked_else state.Dark x l i e n = absurd cc
    asked_else (state.Red stop) x l i e n = absurd cc
    asked_else (state.Started t) x l i e n =
        let b = wanting_at t.wanted book in
        not_green (modelled (state.Started t) book held) b l n ∙ ap (λ x. on_question room x b (modelled (state.Started t) book held) q) e
