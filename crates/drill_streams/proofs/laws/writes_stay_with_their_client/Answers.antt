use Rattle.drill_streams.proofs.Within.{writes_within}
use Rattle.drill_streams.proofs.laws.writes_stay_with_their_client.Goals as goal

pub returns : goal.returns
returns c n client = writes_within n client
