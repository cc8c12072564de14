use Rattle.std.proofs.Common.{length, arith}
use Rattle.vc_layout.specs.Layout.{place_of}
use Rattle.header_change.proofs.Steps.{at_a_slot, at_place, outcomes_at, write_outside}
use Rattle.header_change.proofs.header.write_header.Goals as goal

pub write_at-requires : goal.write_at-requires
write_at-requires g c =
    at_a_slot c.args.slot c.args.len c.slot_at.result (g.D.Store.size c.args.disk.now) (length c.args.header.now)
    c.requires.long c.slot_at.ensures c.requires.size (omega arith)

pub returns-clause-written : goal.returns-clause-written
returns-clause-written g c =
    at_place c.write_at.result (g.D.Store.image c.args.disk.now) (g.D.Store.image c.write_at.new.self) c.slot_at.result
    (place_of c.args.slot c.args.len) c.args.header.now c.slot_at.ensures c.write_at.ensures.written

pub returns-clause-outside : goal.returns-clause-outside
returns-clause-outside g c =
    write_outside c.write_at.result (g.D.Store.image c.args.disk.now) (g.D.Store.image c.write_at.new.self) c.args.slot
    c.args.len c.slot_at.result (g.D.Store.size c.args.disk.now) c.args.header.now (omega arith) c.slot_at.ensures
    c.requires.long c.requires.size (g.met.D.Store.image_is_whole c.args.disk.now)
    c.write_at.ensures.written c.write_at.ensures.outside

pub returns-clause-crash : goal.returns-clause-crash
returns-clause-crash g c =
    outcomes_at g.D.Store.tells (g.D.Store.moment c.args.disk.now) (g.D.Store.moment c.write_at.new.self)
    (g.D.Store.left_since c.args.disk.now) (g.D.Store.left_since c.write_at.new.self)
    (g.D.Store.may_leave c.args.disk.now) (g.D.Store.may_leave c.write_at.new.self)
    c.slot_at.result (place_of c.args.slot c.args.len) (length c.args.header.now) c.slot_at.ensures (omega arith)
    c.write_at.ensures.crash
