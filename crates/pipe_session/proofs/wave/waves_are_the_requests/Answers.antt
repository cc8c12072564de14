use Rattle.pipe_session.proofs.OneByOne.{are_waves}
use Rattle.pipe_session.proofs.wave.waves_are_the_requests.Goals as goal

pub returns : goal.returns
returns c sector depth fs some = are_waves sector depth fs some
