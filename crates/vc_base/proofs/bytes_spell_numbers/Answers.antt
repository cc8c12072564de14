use Rattle.vc_base.proofs.Bytes.{from_bytes-to_bytes, to_bytes-from_bytes, from_bytes_below, from_bytes-xor}
use Rattle.vc_base.proofs.bytes_spell_numbers.Goals as goal

pub returns-clause-read : goal.returns-clause-read
returns-clause-read c = from_bytes-to_bytes

pub returns-clause-written : goal.returns-clause-written
returns-clause-written c = to_bytes-from_bytes

pub returns-clause-fits : goal.returns-clause-fits
returns-clause-fits c = from_bytes_below

pub returns-clause-sums : goal.returns-clause-sums
returns-clause-sums c = from_bytes-xor
