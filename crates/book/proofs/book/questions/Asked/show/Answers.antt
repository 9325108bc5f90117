use Rattle.std.proofs.Common.{◌≡◌, ◌<◌, ◌≤◌, List, length, get_or, set, sym, ap, ◌∙◌, filter, arith, rules, tests}
use Rattle.std.proofs.lemmas.Iterator.{YieldsList-from_slice}
use Rattle.std.proofs.lemmas.Iterator.Consumers.{YieldsList-at, YieldsList-end, YieldsList-from_enumerate, YieldsList-from_filter, YieldsList-turn}
use Rattle.std.proofs.lemmas.List.{length-map, length_push}
use Rattle.wire.specs.declared.order.OrderRow.{OrderRow}
use Rattle.book.specs.Questions.{asked, rows_of, shown}
use Rattle.book.proofs.Shown.{front, front_all, front_more, numbered}
use Rattle.book.proofs.book.questions.Asked.show.Goals as goal

abbrev orders : goal.After-into → List OrderRow
orders c = filter (asked c.args.self.symbol c.args.self.side) c.args.live.now

-- the orders that are asked for fit
fits : (c : goal.After-into) → length (orders c) ≤ length c.args.rows.now
unfolding rows_of
fits c = omega (arith, c.requires, length-map (orders c) shown)

-- where an order that is written stands among them
place : (c : goal.After-into) → (length c.loop-n.yielded < length (orders c)) × (c.in-Some.n ≡ length c.loop-n.yielded) × (c.in-Some.field-0-1.now ≡ get_or (orders c) (length c.loop-n.yielded) c.in-Some.field-0-1.now)
place c =
    let turn = YieldsList-turn (YieldsList-at c.into_iter-n-iterator.ensures.into_iter_gives (YieldsList-from_enumerate (YieldsList-at c.enumerate-n-items.ensures.source (YieldsList-from_filter _ (asked c.args.self.symbol c.args.self.side) (YieldsList-from_slice c.args.live.now cc) c.filter.ensures.closure (λ x r q k. search (rules, tests)))) c.enumerate-n-items.ensures.count)) c.loop-n.yielded _ c.loop-n.yielded_by _ _ _ c.in-Some.is c.next.ensures.steps in
    numbered (orders c) (length c.loop-n.yielded) c.in-Some.n c.in-Some.field-0-1.now turn.0 turn.1

pub bounds-rows-n : goal.bounds-rows-n
bounds-rows-n c =
    let f = fits c in
    let p = place c in
    let l : c.in-Some.n < length c.args.rows.now = omega (arith, f, p.0, p.1) in
    search rules

pub loop-n-preserved : goal.loop-n-preserved
loop-n-preserved c =
    let p = place c in
    ap (λ rows. set rows c.in-Some.n c.into.result) c.loop-n.invariant
    ∙ ap (λ k. set (front (orders c) c.args.rows.now (length c.loop-n.yielded)) k c.into.result) p.1
    ∙ ap (set (front (orders c) c.args.rows.now (length c.loop-n.yielded)) (length c.loop-n.yielded)) c.into.ensures
    ∙ front_more (orders c) c.args.rows.now (length c.loop-n.yielded) c.in-Some.field-0-1.now p.0 (fits c) p.2
    ∙ ap (front (orders c) c.args.rows.now) (sym (length_push c.loop-n.yielded _))

pub returns : goal.returns
unfolding rows_of
returns c =
    let end = YieldsList-end (YieldsList-at c.into_iter-n-iterator.ensures.into_iter_gives (YieldsList-from_enumerate (YieldsList-at c.enumerate-n-items.ensures.source (YieldsList-from_filter _ (asked c.args.self.symbol c.args.self.side) (YieldsList-from_slice c.args.live.now cc) c.filter.ensures.closure (λ x r q k. search (rules, tests)))) c.enumerate-n-items.ensures.count)) c.loop-n.yielded _ c.loop-n.yielded_by _ _ c.in-None.is c.next.ensures.steps in
    c.loop-n.invariant ∙ front_all (filter (asked c.args.self.symbol c.args.self.side) c.args.live.now) c.args.rows.now (length c.loop-n.yielded) end.1
