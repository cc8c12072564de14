use Rattle.volume_format.proofs.Making.{headers_of}
use Rattle.volume_format.proofs.outer.format_outer.Goals as goal

pub returns-in-Ok-make-clause-headers : goal.returns-in-Ok-make-clause-headers
returns-in-Ok-make-clause-headers g c =
    headers_of (g.D.Store.image c.args.disk.now) (g.D.Store.image c.set_len.new.self) (g.D.Store.image c.make.new.disk) c.args.rng.now c.args.spec.now c.in-Ok.ensures.resized c.in-Ok-make.ensures.written
