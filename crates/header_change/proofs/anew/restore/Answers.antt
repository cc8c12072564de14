use Rattle.std.proofs.Common.{arith}
use Rattle.vc_outside.specs.Told.{SameOutside}
use Rattle.vc_layout.specs.Layout.{place_of}
use Rattle.vc_layout.specs.declared.slots.Slot.{Slot}
use Rattle.vc_header.specs.declared.fields.Fields.{Fields}
use Rattle.volume_format.specs.Stream.{stream_bytes}
use Rattle.volume_format.specs.Formatted.{Sealing}
use Rattle.header_change.specs.Changed.{new_sealing}
use Rattle.header_change.specs.Moments.{HasFields, IsOpen}
use Rattle.header_change.specs.Pair.{OnlyPrimary, primary_of}
use Rattle.header_change.proofs.Moments.{since_start, weaker}
use Rattle.header_change.proofs.Slots.{long_enough}
use Rattle.header_change.proofs.Steps.{from_stream, has_written, in_primary, fields_last, on_ok, only_primary, openings_last, primary_has, stays_in_backup}
use Rattle.header_change.proofs.anew.restore.Goals as goal

pub write_lasting-requires-clause-long : goal.write_lasting-requires-clause-long
write_lasting-requires-clause-long g c =
    omega (arith, c.len-len.ensures.len, long_enough c.args.from.now.fields c.args.from.now.slot (g.D.Store.size c.args.disk.now) c.requires.meets)

pub returns-clause-restored : goal.returns-clause-restored
returns-clause-restored g c =
    let slot : Slot = c.args.from.now.slot in
    let k : Sealing = new_sealing c.args.p.now c.args.pim c.args.from.now.prf c.args.from.now in
    let f : Fields = c.args.from.now.fields in
    on_ok c.write_lasting.result (λ one. from_stream (primary_of slot) k c.next_salt-salt.result
    (stream_bytes c.args.rng.now 0 64) f (g.D.Store.image c.args.disk.now) (g.D.Store.image c.write_lasting.new.disk) c.next_salt-salt.ensures.salt
    (has_written (primary_of slot) c.pair_of-primary.result.0 k c.next_salt-salt.result c.new_header-header.result f c.len-len.result
    (g.D.Store.size c.args.disk.now) (g.D.Store.image c.args.disk.now) (g.D.Store.image c.write_lasting.new.disk) c.pair_of-primary.ensures.primary c.len-len.ensures.len
    c.new_header-header.ensures.header (g.met.D.Store.image_is_whole c.args.disk.now) one))
    c.write_lasting.ensures.written

pub returns-clause-header : goal.returns-clause-header
returns-clause-header g c =
    let slot : Slot = c.args.from.now.slot in
    let k : Sealing = new_sealing c.args.p.now c.args.pim c.args.from.now.prf c.args.from.now in
    let f : Fields = c.args.from.now.fields in
    on_ok c.write_lasting.result (λ one. primary_has c.headers_open_again.ensures c.validity_is_decided.ensures slot k f
    c.next_salt-salt.result (g.D.Store.size c.args.disk.now) (g.D.Store.image c.args.disk.now) (g.D.Store.image c.write_lasting.new.disk)
    (long_enough f slot (g.D.Store.size c.args.disk.now) c.requires.meets) c.requires.meets (omega arith) c.new_header-header.ensures.opens_again (g.met.D.Store.image_is_whole c.args.disk.now)
    (has_written (primary_of slot) c.pair_of-primary.result.0 k c.next_salt-salt.result c.new_header-header.result f c.len-len.result
    (g.D.Store.size c.args.disk.now) (g.D.Store.image c.args.disk.now) (g.D.Store.image c.write_lasting.new.disk) c.pair_of-primary.ensures.primary c.len-len.ensures.len
    c.new_header-header.ensures.header (g.met.D.Store.image_is_whole c.args.disk.now) one))
    c.write_lasting.ensures.written

pub returns-clause-outside : goal.returns-clause-outside
returns-clause-outside g c =
    only_primary c.args.from.now.slot c.pair_of-primary.result.0 c.len-len.result (g.D.Store.image c.args.disk.now) (g.D.Store.image c.write_lasting.new.disk)
    c.pair_of-primary.ensures.primary c.write_lasting.ensures.outside

pub returns-clause-crash : goal.returns-clause-crash
returns-clause-crash g c =
    weaker g.D.Store.tells (g.D.Store.moment c.args.disk.now) (g.D.Store.moment c.write_lasting.new.disk)
    (g.D.Store.left_since c.args.disk.now) (g.D.Store.left_since c.write_lasting.new.disk)
    (g.D.Store.may_leave c.args.disk.now) (g.D.Store.may_leave c.write_lasting.new.disk)
    (SameOutside (place_of c.pair_of-primary.result.0 c.len-len.result) 512) (OnlyPrimary c.args.from.now.slot)
    (λ _ x after. in_primary c.args.from.now.slot c.pair_of-primary.result.0 c.len-len.result (g.D.Store.may_leave c.args.disk.now) c.pair_of-primary.ensures.primary x after)
    c.write_lasting.ensures.crash

pub returns-clause-backup_carries : goal.returns-clause-backup_carries
returns-clause-backup_carries g c =
    stays_in_backup HasFields fields_last g.D.Store.tells (g.D.Store.may_leave c.args.disk.now) (g.D.Store.left_since c.write_lasting.new.disk (g.D.Store.moment c.args.disk.now))
    c.args.from.now.slot c.args.from.now.fields
    (since_start g.D.Store.tells (g.D.Store.moment c.args.disk.now) (g.D.Store.moment c.write_lasting.new.disk)
    (g.D.Store.left_since c.args.disk.now) (g.D.Store.left_since c.write_lasting.new.disk)
    (g.D.Store.may_leave c.args.disk.now) (g.D.Store.may_leave c.write_lasting.new.disk) (OnlyPrimary c.args.from.now.slot)
    (returns-clause-crash g c)
    (λ modelled x left. g.met.D.Store.only_now modelled c.args.disk.now x left))

pub returns-clause-backup_opens : goal.returns-clause-backup_opens
returns-clause-backup_opens g c =
    stays_in_backup IsOpen openings_last g.D.Store.tells (g.D.Store.may_leave c.args.disk.now) (g.D.Store.left_since c.write_lasting.new.disk (g.D.Store.moment c.args.disk.now))
    c.args.from.now.slot c.args.from.now.fields
    (since_start g.D.Store.tells (g.D.Store.moment c.args.disk.now) (g.D.Store.moment c.write_lasting.new.disk)
    (g.D.Store.left_since c.args.disk.now) (g.D.Store.left_since c.write_lasting.new.disk)
    (g.D.Store.may_leave c.args.disk.now) (g.D.Store.may_leave c.write_lasting.new.disk) (OnlyPrimary c.args.from.now.slot)
    (returns-clause-crash g c)
    (λ modelled x left. g.met.D.Store.only_now modelled c.args.disk.now x left))
