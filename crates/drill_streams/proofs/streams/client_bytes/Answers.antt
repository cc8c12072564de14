use Rattle.std.proofs.Common.{◌++◌, ap₂, ◌∙◌, arith}
use Rattle.drill_streams.specs.Drill.{requests, sent}
use Rattle.drill_streams.proofs.Sent.{sent_all, sent_next}
use Rattle.drill_streams.proofs.streams.client_bytes.Goals as goal

pub loop-index-preserved : goal.loop-index-preserved
loop-index-preserved c =
    sent_next c.args.n c.args.client c.loop-index.index c.loop-index.bytes.items (sent (requests c.args.n c.args.client)) c.loop-index.invariant
    c.loop-index-test.true c.add_request.new.bytes.items c.in_ok-add_request.ensures

pub returns : goal.returns
returns c =
    c.in_ok-extend_from_slice.ensures.items
    ∙ ap₂ ◌++◌
    (sent_all c.args.n c.args.client c.loop-index.index c.loop-index.bytes.items (sent (requests c.args.n c.args.client)) c.loop-index.invariant
    (omega arith))
    c.head.ensures
