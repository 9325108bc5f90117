use Rattle.std.proofs.Common.{◌≡◌, true, drop, ap, ◌∙◌, rules}
use Rattle.std.proofs.lemmas.List.Sorted.{IsPartitionPoint-from_clause}
use Rattle.std.specs.Ordering.{is_lt}
use Rattle.table.specs.Rows.{ordered}
use Rattle.table.specs.Tables.{entries}
use Rattle.table.proofs.Laws.{lawful_total}
use Rattle.table.proofs.Searches.{parted, below_parted}
use Rattle.table.proofs.Table.remove_below.Goals as goal

pub returns : goal.returns
returns g c =
    let facts = c.partition_point-below.ensures in
    let o : ordered g.T.Row.key g.T.Row.order c.entries.result.now ≡ true = rw c.entries.ensures c.args.self.now.kept in
    let point = IsPartitionPoint-from_clause (λ y. is_lt (g.T.Row.order (g.T.Row.key y) c.args.k)) c.entries.result.now c.partition_point-below.result facts.partitioned (parted g.T.Row.key g.T.Row.order (lawful_total g.met.T.Row.lawful) c.args.k c.entries.result.now o) (λ a r h called. search rules) in
    let is = below_parted g.T.Row.key g.T.Row.order (lawful_total g.met.T.Row.lawful) c.args.k c.entries.result.now o c.partition_point-below.result facts.bound point in
    record {
      entries = c.cut.ensures.entries ∙ ap (λ n. drop n (entries c.args.self.now)) (rw c.entries.ensures at is);
      room = c.cut.ensures.room;
    }
