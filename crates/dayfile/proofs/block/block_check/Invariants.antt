use Rattle.std.proofs.Common.{◌≡◌, ◌+◌, ◌*◌, ◌≤◌, drop}
use Rattle.dayfile.specs.Blocks.{weighted}
use Rattle.dayfile.proofs.block.block_check.Given as goal

abbrev pub invariant-loop-i : goal.invariant-loop-i
invariant-loop-i l =
    (l.sum + weighted (l.i + 1) (drop l.i l.covered) ≡ weighted 1 l.covered) × (l.sum ≤ 130050 * l.i)
