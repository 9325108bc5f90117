use Rattle.follower.proofs.Keeping.{kept}
use Rattle.follower.proofs.follower.Follower.call.Goals as goal

pub returns : goal.returns
returns g c =
    let d = c.dispatch.ensures in
    record {
      outcome = d.outcome;
      rows = d.rows;
      stays = d.stays;
      law = kept _ _ _ (record { state = d.outcome.state; answer = d.outcome.answer; rows = d.rows });
    }
