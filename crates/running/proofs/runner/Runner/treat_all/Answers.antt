use Rattle.std.proofs.Common.{◌≡◌, ◌<◌, ◌≤◌, sym, refl, ap, ◌∙◌, arith}
use Rattle.wire.specs.Packets.{left_in}
use Rattle.following.specs.Follower.{Place, Fate, treated, place_after, counts_of}
use Rattle.running.specs.Runners.{room_of, place_in, fate_of}
use Rattle.running.proofs.Counting.{added, added_one, added_first, added_last, bounded_one, countable, place_next, counts_next, place_end, counts_end}
use Rattle.running.proofs.runner.Runner.treat_all.Goals as goal

pub count-requires : goal.count-requires
count-requires c =
    let f = c.in-Some.ensures in
    let l : c.next.new.self.left < c.loop-message.message-iterator.left = (f.goes.on tt).2 in
    countable c.loop-message.counts c.loop-message.message-iterator.left c.next.new.self.left l c.loop-message.invariant.5

pub loop-message-init : goal.loop-message-init
loop-message-init c =
    let room = room_of c.args.self.now in
    let p : Place = place_in c.args.self.now c.args.reached in
    let m = c.into_iter-message-iterator.result in
    let e = c.into_iter-message-iterator.ensures.into_iter_gives in
    let d = c.default-counts.ensures in
    let l : m.left ≤ 65535 = omega (arith, c.well_formed, ap (λ x. x.left) e) in (
      tt,
      tt,
      refl,
      ap (λ x. place_after room p x.number (left_in x)) (sym e),
      ap (λ x. counts_of room p x.number (left_in x)) (sym e) ∙ added_first c.default-counts.result (counts_of room p m.number (left_in m)) d.0 d.1.0 d.1.1.0 d.1.1.1,
      (omega (arith, d), omega (arith, d), omega (arith, d), omega (arith, d)),
    )

pub loop-message-preserved : goal.loop-message-preserved
loop-message-preserved c =
    let i = c.loop-message.invariant in
    let f = c.in-Some.ensures in
    let m = c.in-Some.message in
    let self = c.loop-message.self in
    let rest = c.loop-message.message-iterator in
    let after = c.treat-treated.new.self in
    let next = c.next.new.self in
    let g = c.treat-treated.ensures in
    let room = room_of c.args.self.now in
    let p : Place = place_in self c.loop-message.reached in
    let q : Place = place_in after c.treat-treated.result.1 in
    let fate : Fate = fate_of c.treat-treated.result.0 in
    let t : (fate, q) ≡ treated room p rest.number m.bytes.now =
    g.treated ∙ ap (λ r. treated r p m.number m.bytes.now) i.2 ∙ ap (λ k. treated room p k m.bytes.now) f.steps.1 in
    let l : next.left < rest.left = (f.goes.on tt).2 in (
      tt,
      tt,
      g.room ∙ i.2,
      i.3 ∙ place_next room p q fate rest.number next.number m.bytes.now (left_in rest) (left_in next) f.steps.0 f.steps.2 t,
      i.4
          ∙ ap (added c.loop-message.counts) (counts_next room p q fate rest.number next.number m.bytes.now (left_in rest) (left_in next) f.steps.0 f.steps.2 t)
          ∙ added_one fate c.loop-message.counts (counts_of room q next.number (left_in next))
          ∙ ap (λ x. added x (counts_of room q next.number (left_in next))) (sym c.count.ensures),
      rw c.count.ensures (bounded_one fate c.loop-message.counts rest.left next.left l i.5),
    )

pub returns : goal.returns
returns c =
    let i = c.loop-message.invariant in
    let f = c.in-None.ensures in
    let self = c.loop-message.self in
    let rest = c.loop-message.message-iterator in
    let room = room_of c.args.self.now in
    let p : Place = place_in self c.loop-message.reached in
    record {
      counts = sym (i.4 ∙ ap (added c.loop-message.counts) (counts_end room p rest.number (left_in rest) f.steps.0) ∙ added_last c.loop-message.counts);
      led = record { place = sym (i.3 ∙ place_end room p rest.number (left_in rest) f.steps.0); room = i.2 };
    }
