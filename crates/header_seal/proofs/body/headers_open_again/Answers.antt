use Rattle.header_seal.proofs.OpenedAgain.{header_opens_again}
use Rattle.header_seal.proofs.body.headers_open_again.Goals as goal

pub returns : goal.returns
returns c = header_opens_again
