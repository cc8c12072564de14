use Rattle.drill_streams.proofs.Framed.{frames-stream}
use Rattle.drill_streams.proofs.laws.streams_are_requests.Goals as goal

pub returns : goal.returns
returns c n client below = frames-stream n client below
