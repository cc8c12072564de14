use Rattle.vc_header.proofs.Reading.{validity_decided}
use Rattle.vc_header.proofs.fields.validity_is_decided.Goals as goal

pub returns : goal.returns
returns c = validity_decided
