-- The late join, for any held messages and any snapshot.
use Rattle.table.specs.Rows.{below}
use Rattle.following.specs.States.{lamp_of}
use Rattle.following.specs.Follower.{settled, run_held, while_started, outcome}
use Rattle.known_results.specs.Joins.{GapAmongHeld}

pub gap_among_held : GapAmongHeld
unfolding below lamp_of settled run_held while_started outcome
gap_among_held room s m n o bytes snap book no_book highest held completed next runs =
    simp (no_book, completed, next, held, runs, highest)
