use Rattle.std.proofs.Common.{◌≡◌, ◌≤◌, length}
use Rattle.dayfile.specs.Looks.{Leads}
use Rattle.dayfile.proofs.file.DayFile.seek.Given as goal

abbrev pub invariant-loop-block : goal.invariant-loop-block
invariant-loop-block l = record {
  from : l.cursor.low ≡ l.number;
  reach : l.number ≤ l.cursor.high;
  leads : Leads l.self.bytes.now l.self.session l.cursor;
}

abbrev pub decreases-loop-block : goal.decreases-loop-block
decreases-loop-block l = length l.cursor.rest.now
