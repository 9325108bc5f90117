use Rattle.std.proofs.Common.{◌≡◌, ◌+◌, ◌-◌, suc, Ok, Err, refl, sym, ap, ◌∙◌, arith}
use Rattle.std.specs.Option.{unwrap_or}
use Rattle.source.specs.Meanings.{Meaning}
use Rattle.following.specs.States.{Room}
use Rattle.following.specs.Follower.{Place, ends, mended}
use Rattle.following.specs.declared.answers.Ending.TheVariants.{Budget}
use Rattle.running.specs.Runners.{room_of, place_in, mended_in}
use Rattle.running.proofs.Mending.{added_to, added_none, ended, further, fetched_at, found_spent}
use Rattle.running.proofs.runner.Runner.mend.Goals as goal

pub loop-fetched-init : goal.loop-fetched-init
loop-fetched-init g c =
    let z : c.args.budget - 0 ≡ c.args.budget = omega arith in
    (refl, refl, rw z (added_none (mended (room_of c.args.self.now) (g.S.Source.meaning c.args.source.now).held c.args.highest c.args.budget (place_in c.args.self.now c.args.reached))))

pub loop-fetched-preserved : goal.loop-fetched-preserved
loop-fetched-preserved g c =
    let i = c.loop-fetched.invariant in
    let f = c.in-Ok.ensures in
    let room : Room = room_of c.args.self.now in
    let source : Meaning = g.S.Source.meaning c.args.source.now in
    let n = c.loop-fetched.fetched in
    let left = c.args.budget - (n + 1) in
    let b : c.args.budget - n ≡ suc left = omega arith in
    let p : Place = place_in c.loop-fetched.self c.loop-fetched.reached in (
      f.meaning ∙ i.0,
      f.room ∙ i.1,
      further _ n _ (i.2 ∙ ap (λ k. added_to n (mended room source.held c.args.highest k p)) b) _
          (fetched_at _ room _ source c.args.highest p c.loop-fetched.reached c.fetch.new.self (Ok c.in-Ok.next) i.1 i.0 f.fetched left),
    )

pub returns-in-Err-clause-mended : goal.returns-in-Err-clause-mended
returns-in-Err-clause-mended g c =
    let i = c.loop-fetched.invariant in
    let f = c.in-Err.ensures in
    let room : Room = room_of c.args.self.now in
    let source : Meaning = g.S.Source.meaning c.args.source.now in
    let n = c.loop-fetched.fetched in
    let left = c.args.budget - (n + 1) in
    let b : c.args.budget - n ≡ suc left = omega arith in
    let p : Place = place_in c.loop-fetched.self c.loop-fetched.reached in
    ended _ n _ (i.2 ∙ ap (λ k. added_to n (mended room source.held c.args.highest k p)) b) _ c.in-Err.ending
    (fetched_at _ room _ source c.args.highest p c.loop-fetched.reached c.fetch.new.self (Err c.in-Err.ending) i.1 i.0 f.fetched left)

pub returns-clause-mended : goal.returns-clause-mended
returns-clause-mended g c =
    let i = c.loop-fetched.invariant in
    let room : Room = room_of c.args.self.now in
    let source : Meaning = g.S.Source.meaning c.args.source.now in
    let self = c.loop-fetched.self in
    let n = c.loop-fetched.fetched in
    let all : n ≡ c.args.budget = omega arith in
    let none : c.args.budget - n ≡ 0 = omega arith in
    let p : Place = place_in self c.loop-fetched.reached in
    let how = c.unwrap_or.ensures ∙ ap (λ o. unwrap_or o Budget) c.err.ensures.value in
    ap (λ k. mended_in self (record { reached = c.loop-fetched.reached; fetched = k; ending = c.unwrap_or.result })) (sym all)
    ∙ ended _ n _ (i.2 ∙ ap (λ k. added_to n (mended room source.held c.args.highest k p)) none) p c.unwrap_or.result
    (found_spent room source.held c.args.highest self c.loop-fetched.reached c.missing.result c.missing.ensures ∙ ap (ends p) (sym how))
