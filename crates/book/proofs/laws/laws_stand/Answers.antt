use Rattle.book.proofs.Whole.{runs_sound, snapshots_sound, seconds_idle, others_idle}
use Rattle.book.proofs.laws.laws_stand.Goals as goal

pub returns : goal.returns
returns c = record { runs = runs_sound; snapshots = snapshots_sound; seconds = seconds_idle; others = others_idle }
