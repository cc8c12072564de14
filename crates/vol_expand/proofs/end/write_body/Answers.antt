use Rattle.std.proofs.Common.{◌+◌, ◌-◌, arith}
use Rattle.vol_expand.proofs.Parts.{only_range}
use Rattle.vol_expand.proofs.end.write_body.Goals as goal

pub returns-clause-outside : goal.returns-clause-outside
returns-clause-outside g c =
    only_range c.write_at.result (g.D.Store.image c.args.disk.now) (g.D.Store.image c.write_at.new.self)
    (c.slot_at.result + 64) (c.args.size - 131072 + 64) 448 (g.D.Store.size c.args.disk.now) c.seal-body.result
    (omega arith) (omega (arith, c.slot_at.ensures))
    (omega (arith, c.requires.long, c.requires.size)) (g.met.D.Store.image_is_whole c.args.disk.now)
    c.write_at.ensures.written c.write_at.ensures.outside
