-- The table of known results, each row computed.
use Rattle.std.proofs.Common.{refl}
use Rattle.dayfile.specs.Blocks.{weighted}
use Rattle.worked_histories.proofs.Opened.{opened}
use Rattle.known_results.specs.Table.{AllStand, KnownResults}

pub known_results : KnownResults
unfolding opened weighted AllStand
known_results = (refl, (refl, (refl, (refl, (refl, (refl, (refl, (refl, (refl, (refl, (refl, (refl, (refl, (refl, (refl, tt)))))))))))))))
