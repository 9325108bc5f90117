use Rattle.following.proofs.Further.{stops_forget}
use Rattle.following.proofs.laws.stops_forget.Goals as goal

pub returns : goal.returns
returns c = stops_forget
