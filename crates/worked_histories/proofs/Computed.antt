-- The worked histories, computed.
use Rattle.std.proofs.Common.{refl}
use Rattle.worked_histories.specs.Histories.{LateJoin, LossRepaired, RedNeeded, ForeignRefused, StopsBeforeGreen, RepeatsAndDrops}
use Rattle.worked_histories.proofs.Opened.{opened}
use Rattle.worked_histories.proofs.Sources.{first_belongs, pair_belongs}

pub late_join : LateJoin
unfolding opened
late_join = (
  refl,
  refl,
  refl,
  refl,
  refl,
  refl,
  refl,
  refl,
  refl,
  refl,
  refl,
  refl,
  refl,
  refl,
  refl,
  refl,
  ((refl, refl), ((refl, (refl, tt)), ((refl, (refl, tt)), tt))),
)

pub loss_repaired : LossRepaired
unfolding opened
loss_repaired = (
  refl,
  refl,
  refl,
  refl,
  refl,
  refl,
  refl,
  refl,
  refl,
  refl,
  refl,
  refl,
  refl,
  refl,
  refl,
  refl,
  refl,
  (pair_belongs, (pair_belongs, (first_belongs, ((refl, tt), ((refl, (refl, (refl, tt))), tt))))),
)

pub red_needed : RedNeeded
unfolding opened
red_needed = (
  refl,
  refl,
  refl,
  refl,
  refl,
  refl,
  refl,
  refl,
  refl,
  ((refl, (refl, (refl, tt))), tt),
  ((refl, tt), ((refl, (refl, tt)), tt)),
)

pub foreign_refused : ForeignRefused
unfolding opened
foreign_refused = (refl, refl, refl, refl, refl, refl, refl, refl, (first_belongs, (refl, tt)))

pub stops_before_green : StopsBeforeGreen
unfolding opened
stops_before_green = (refl, refl, refl, refl, refl, refl, ((refl, (refl, (refl, tt))), (refl, tt)))

pub repeats_and_drops : RepeatsAndDrops
unfolding opened
repeats_and_drops = (
  refl,
  refl,
  refl,
  refl,
  refl,
  refl,
  refl,
  refl,
  refl,
  ((refl, tt), ((refl, tt), ((refl, (refl, tt)), ((refl, (refl, (refl, (refl, tt)))), ((refl, tt), ((refl, (refl, tt)), tt)))))),
)
