use Rattle.drill_streams.proofs.Framed.{head_from}
use Rattle.drill_streams.proofs.bytes.head.Goals as goal

pub returns : goal.returns
returns c =
    head_from c.args.q.now _ _ _ _ _
    c.to_be_bytes.ensures c.to_be_bytes-2.ensures c.to_be_bytes-3.ensures c.to_be_bytes-4.ensures c.to_be_bytes-5.ensures
