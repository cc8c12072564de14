use Rattle.std.proofs.Common.{ap, arith}
use Rattle.vc_layout.specs.declared.geometry.Geometry.{Geometry}
use Rattle.io_core.proofs.PastTheEnd.{sound_beyond}
use Rattle.io_queue.proofs.acts.PassEndActCore.act.Goals as goal

pub returns-clause-stands : goal.returns-clause-stands
returns-clause-stands g c = λ base log may stands.
    sound_beyond g.S.Store g.C.UnitCipher base log c.args.value.now c.args.caller 0 c.args.self.now.first c.args.self.now.count
    (λ fits. may.1 (omega (arith, fits, may.0, ap (λ (k : Geometry). k.sectors) stands.geometry_same))) stands
