use Rattle.std.proofs.Common.{rules}
use Rattle.std.proofs.lemmas.Fn.{always_returns_same}
use Rattle.table.proofs.Laws.{lawful_total}
use Rattle.table.proofs.Searches.{seat_searched}
use Rattle.table.proofs.Table.seat.Goals as goal

pub returns : goal.returns
returns g c =
    let facts = c.binary_search_by.ensures in
    let by_order = facts.position (λ y. g.T.Row.order (g.T.Row.key y) c.args.k.now) (always_returns_same _ _ _ (λ a r h called. search rules)) in
    rw (← c.entries.ensures) (seat_searched g.T.Row.key g.T.Row.order (lawful_total g.met.T.Row.lawful) c.args.k.now c.entries.result.now (rw c.entries.ensures c.args.self.now.kept) c.binary_search_by.result facts.bound by_order)
