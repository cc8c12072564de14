use Rattle.std.proofs.Common.{◌/◌, arith}
use Rattle.drill_streams.proofs.Counting.{all_added, none_added, one_added}
use Rattle.drill_streams.proofs.bytes.add_data.Goals as goal

pub loop-init : goal.loop-init
loop-init c = none_added (c.args.word / 16777216) c.args.bytes.now.items

pub loop-preserved : goal.loop-preserved
loop-preserved c =
    one_added (c.args.word / 16777216) c.loop.counter c.args.bytes.now.items c.loop.bytes.items _ c.counting-sector.result
    c.loop.invariant c.counting-sector.ensures c.in_ok-extend_from_slice.ensures.items

pub returns : goal.returns
returns c = all_added c.args.word c.loop.counter c.args.bytes.now.items c.loop.bytes.items c.loop.invariant (omega arith)
