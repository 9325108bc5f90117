use Rattle.std.proofs.Common.{rules}
use Rattle.dayfile.proofs.file.DayFile.first_session.Goals as goal
use Rattle.dayfile.proofs.Cuts.{found}

pub returns : goal.returns
returns c =
    let a = c.find_map.ensures.runs in
    found _ _ (search rules) (λ x r l k. search rules) a.0 c.args.bytes.now (search rules) _ a.2
