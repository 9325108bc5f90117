use Rattle.std.proofs.Common.{◌≡◌, take, Some, Err, sym, ap, ◌∙◌, subst, arith}
use Rattle.std.proofs.lemmas.Result.{err_from_is_err_and}
use Rattle.following.specs.declared.answers.Ending.TheVariants.{NotHeld}
use Rattle.running.specs.Runners.{room_of, place_in, Fetched}
use Rattle.running.proofs.Mending.{fetched, missed, not_lent, found_missing, found_more}
use Rattle.running.proofs.runner.Runner.fetch.Goals as goal

pub returns-in_err-length-clause-fetched : goal.returns-in_err-length-clause-fetched
returns-in_err-length-clause-fetched g c =
    let self = c.args.self.now in
    let held = (g.S.Source.meaning c.args.source.now).held in
    let f = c.fetch.ensures in
    let w = c.in_ok-wanted.wanted in
    let i = c.in_ok-wanted.ensures in
    let n = not_lent c.fetch.result c.ok_or.result NotHeld c.in_err-length.field-0.0 c.ok_or.ensures.value c.in_err-length.was in
    let p = err_from_is_err_and c.from_residual-in_err-length.result c.from_residual-in_err-length.ensures.1 in
    let how : c.from_residual-in_err-length.result ≡ Err NotHeld = p.1 ∙ ap Err (p.2 ∙ n.1) in
    subst (Fetched (room_of self) held c.args.highest (place_in self c.args.reached) c.args.reached self) (sym how)
    (found_missing (room_of self) held c.args.highest self c.args.reached w i.0 i.1 (missed _ (sym n.0 ∙ f.answers)))

pub returns-clause-fetched : goal.returns-clause-fetched
returns-clause-fetched g c =
    let self = c.args.self.now in
    let held = (g.S.Source.meaning c.args.source.now).held in
    let f = c.fetch.ensures in
    let w = c.in_ok-wanted.wanted in
    let i = c.in_ok-wanted.ensures in
    let n = c.in_ok-length.length in
    let has : c.fetch.result ≡ Some n = grind arith in
    found_more (room_of self) held c.args.highest self c.args.reached w i.0 (take n c.fetch.new.out) _ i.1 (fetched _ n c.args.out.now c.fetch.new.out (sym has ∙ f.answers) f.writes) c.run_wanted.ensures.place
