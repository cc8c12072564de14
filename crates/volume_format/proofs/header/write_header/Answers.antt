use Rattle.std.proofs.Common.{ℕ, List, ◌++◌, length, ap, ◌∙◌, arith}
use Rattle.volume_format.specs.Hidden.{header_under, hidden_sealing_of}
use Rattle.volume_format.proofs.HiddenImages.{slot_inside, slot_outside, slot_written}
use Rattle.volume_format.proofs.header.write_header.Goals as goal

pub write_at-requires : goal.write_at-requires
write_at-requires g c =
    slot_inside c.args.slot c.args.len c.slot_at.result (g.D.Store.size c.args.disk.now) (length c.header_of.result)
    c.requires.long c.slot_at.ensures c.requires.size (omega arith)

pub returns-clause-written : goal.returns-clause-written
returns-clause-written g c =
    slot_written c.write_at.result (g.D.Store.image c.args.disk.now) (g.D.Store.image c.write_at.new.self) c.args.slot c.args.len
    c.slot_at.result c.header_of.result
    (header_under (hidden_sealing_of c.args.spec.now) c.args.salt.now c.args.fields.now) c.slot_at.ensures
    (c.header_of.ensures ∙ ap (λ (b : List ℕ). c.args.salt.now ++ b) c.sealed_body-body.ensures.body)
    c.write_at.ensures.written

pub returns-clause-outside : goal.returns-clause-outside
returns-clause-outside g c =
    slot_outside c.write_at.result (g.D.Store.image c.args.disk.now) (g.D.Store.image c.write_at.new.self) c.args.slot c.args.len
    c.slot_at.result c.header_of.result (omega arith) c.slot_at.ensures c.requires.long
    (g.D.Store.size c.args.disk.now) c.requires.size (g.met.D.Store.image_is_whole c.args.disk.now)
    c.write_at.ensures.written c.write_at.ensures.outside
