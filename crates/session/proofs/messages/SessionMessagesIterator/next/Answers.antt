use Rattle.std.proofs.Common.{◌≡◌, ℕ, ◌+◌, ◌-◌, ◌∷◌, get_or, take, drop, sym, refl, ap, ◌∙◌, arith, rules}
use Rattle.std.proofs.lemmas.List.{take_rest}
use Rattle.session.specs.Sessions.{Framed, session_messages}
use Rattle.session.proofs.Framing.{session_step}
use Rattle.session.proofs.messages.SessionMessagesIterator.next.Goals as goal

pub returns-in_err-length-clause-steps : goal.returns-in_err-length-clause-steps
returns-in_err-length-clause-steps c = rw c.from_residual.ensures (session_step c.args.self.now.bytes.now _ c.in_err-length.ensures, refl)

pub returns : goal.returns
returns c =
    let b = c.args.self.now.bytes.now in
    let k = c.in_ok-length.length in
    let size : k - 1 ≡ 2 + k - 3 = omega arith in
    let head : ℕ → Framed = λ n. record { letter = get_or b 2 0; body = take n (drop 3 b) } in
    record {
      steps = session_step b _ c.in_ok-length.ensures
          ∙ ap (λ n. head n ∷ session_messages (drop (2 + k) b)) size
          ∙ sym (ap (λ r. head (2 + k - 3) ∷ session_messages r) (take_rest b (2 + k)));
      goes = search rules;
    }
