use Rattle.std.proofs.Common.{refl, sym, ◌∙◌, arith}
use Rattle.vc_outside.specs.Told.{SameOutside}
use Rattle.vc_layout.specs.Layout.{place_of}
use Rattle.vc_layout.specs.declared.slots.Slot.{Slot}
use Rattle.vc_header.specs.declared.fields.Fields.{Fields}
use Rattle.volume_format.specs.Stream.{stream_bytes}
use Rattle.volume_format.specs.Formatted.{Sealing}
use Rattle.volume_format.proofs.HiddenImages.{drawn_later, drawn_on}
use Rattle.volume_format.proofs.Making.{cause_after}
use Rattle.header_change.specs.Changed.{new_sealing}
use Rattle.header_change.specs.Moments.{Changes, HasFields, IsOpen}
use Rattle.header_change.specs.Pair.{backup_of, primary_of}
use Rattle.header_change.proofs.Moments.{in_turn, since_start, weaker}
use Rattle.header_change.proofs.Slots.{long_enough}
use Rattle.header_change.proofs.Steps.{early, has_written, in_both, in_primary, late, fields_last, on_ok, only_pair, only_primary, openings_last, pair_has, primary_of_pair, stays_in_either}
use Rattle.header_change.proofs.anew.change.Goals as goal

pub write_lasting-requires-clause-long : goal.write_lasting-requires-clause-long
write_lasting-requires-clause-long g c =
    omega (arith, c.len-len.ensures.len, long_enough c.args.from.now.fields c.args.from.now.slot (g.D.Store.size c.args.disk.now) c.requires.meets)

pub write_lasting-requires-2-clause-long : goal.write_lasting-requires-2-clause-long
write_lasting-requires-2-clause-long g c =
    omega (arith, c.len-len.ensures.len, long_enough c.args.from.now.fields c.args.from.now.slot (g.D.Store.size c.args.disk.now) c.requires.meets)

pub returns-clause-drawn : goal.returns-clause-drawn
returns-clause-drawn g c =
    drawn_on c.args.rng.now c.next_salt-salt.new.rng c.next_salt-backup_salt.new.rng 64 64 refl
    c.next_salt-salt.ensures.drawn c.next_salt-backup_salt.ensures.drawn

pub returns-clause-changed : goal.returns-clause-changed
returns-clause-changed g c =
    let slot : Slot = c.args.from.now.slot in
    let k : Sealing = new_sealing c.args.p.now c.args.pim c.args.prf c.args.from.now in
    let f : Fields = c.args.from.now.fields in
    on_ok c.write_lasting-2.result (λ two. in_both (primary_of slot) (backup_of slot) k c.next_salt-salt.result
    c.next_salt-backup_salt.result (stream_bytes c.args.rng.now 0 64) (stream_bytes c.args.rng.now 64 64) f
    (g.D.Store.image c.args.disk.now) (g.D.Store.image c.write_lasting.new.disk) (g.D.Store.image c.write_lasting-2.new.disk)
    c.next_salt-salt.ensures.salt
    (drawn_later c.args.rng.now c.next_salt-salt.new.rng 64 c.next_salt-backup_salt.result c.next_salt-salt.ensures.drawn
    c.next_salt-backup_salt.ensures.salt)
    (has_written (primary_of slot) c.pair_of-primary.result.0 k c.next_salt-salt.result c.new_header-header.result f c.len-len.result
    (g.D.Store.size c.args.disk.now) (g.D.Store.image c.args.disk.now) (g.D.Store.image c.write_lasting.new.disk) c.pair_of-primary.ensures.primary c.len-len.ensures.len
    c.new_header-header.ensures.header (g.met.D.Store.image_is_whole c.args.disk.now) c.in_ok-write_lasting.ensures.written)
    (has_written (backup_of slot) c.pair_of-primary.result.1 k c.next_salt-backup_salt.result c.new_header-backup_header.result f
    c.len-len.result (g.D.Store.size c.write_lasting.new.disk) (g.D.Store.image c.write_lasting.new.disk) (g.D.Store.image c.write_lasting-2.new.disk) c.pair_of-primary.ensures.backup
    (c.len-len.ensures.len ∙ sym c.write_lasting.ensures.size)
    c.new_header-backup_header.ensures.header (g.met.D.Store.image_is_whole c.write_lasting.new.disk) two))
    c.write_lasting-2.ensures.written

pub returns-clause-headers : goal.returns-clause-headers
returns-clause-headers g c =
    let slot : Slot = c.args.from.now.slot in
    let k : Sealing = new_sealing c.args.p.now c.args.pim c.args.prf c.args.from.now in
    let f : Fields = c.args.from.now.fields in
    on_ok c.write_lasting-2.result (λ two. pair_has c.headers_open_again.ensures c.validity_is_decided.ensures slot k f
    c.next_salt-salt.result c.next_salt-backup_salt.result (g.D.Store.size c.args.disk.now)
    (g.D.Store.image c.args.disk.now) (g.D.Store.image c.write_lasting.new.disk) (g.D.Store.image c.write_lasting-2.new.disk)
    (long_enough f slot (g.D.Store.size c.args.disk.now) c.requires.meets) c.requires.meets (omega arith) (omega arith)
    c.new_header-header.ensures.opens_again c.new_header-backup_header.ensures.opens_again (g.met.D.Store.image_is_whole c.args.disk.now)
    (has_written (primary_of slot) c.pair_of-primary.result.0 k c.next_salt-salt.result c.new_header-header.result f c.len-len.result
    (g.D.Store.size c.args.disk.now) (g.D.Store.image c.args.disk.now) (g.D.Store.image c.write_lasting.new.disk) c.pair_of-primary.ensures.primary c.len-len.ensures.len
    c.new_header-header.ensures.header (g.met.D.Store.image_is_whole c.args.disk.now) c.in_ok-write_lasting.ensures.written)
    (has_written (backup_of slot) c.pair_of-primary.result.1 k c.next_salt-backup_salt.result c.new_header-backup_header.result f
    c.len-len.result (g.D.Store.size c.write_lasting.new.disk) (g.D.Store.image c.write_lasting.new.disk) (g.D.Store.image c.write_lasting-2.new.disk) c.pair_of-primary.ensures.backup
    (c.len-len.ensures.len ∙ sym c.write_lasting.ensures.size)
    c.new_header-backup_header.ensures.header (g.met.D.Store.image_is_whole c.write_lasting.new.disk) two))
    c.write_lasting-2.ensures.written

pub returns-in_err-write_lasting-clause-outside : goal.returns-in_err-write_lasting-clause-outside
returns-in_err-write_lasting-clause-outside g c =
    primary_of_pair c.args.from.now.slot (g.D.Store.image c.args.disk.now) (g.D.Store.image c.write_lasting.new.disk)
    (only_primary c.args.from.now.slot c.pair_of-primary.result.0 c.len-len.result (g.D.Store.image c.args.disk.now) (g.D.Store.image c.write_lasting.new.disk)
    c.pair_of-primary.ensures.primary c.write_lasting.ensures.outside)

pub returns-clause-outside : goal.returns-clause-outside
returns-clause-outside g c =
    only_pair c.args.from.now.slot c.pair_of-primary.result.1 (g.D.Store.size c.args.disk.now) c.len-len.result
    (g.D.Store.image c.args.disk.now) (g.D.Store.image c.write_lasting.new.disk) (g.D.Store.image c.write_lasting-2.new.disk)
    c.pair_of-primary.ensures.backup c.len-len.ensures.len (g.met.D.Store.image_is_whole c.args.disk.now)
    (only_primary c.args.from.now.slot c.pair_of-primary.result.0 c.len-len.result (g.D.Store.image c.args.disk.now) (g.D.Store.image c.write_lasting.new.disk)
    c.pair_of-primary.ensures.primary c.write_lasting.ensures.outside) c.write_lasting-2.ensures.outside

pub returns-clause-cause : goal.returns-clause-cause
returns-clause-cause g c =
    cause_after _ _ _ _ _ (omega (arith, c.write_lasting.ensures.cause.later)) c.write_lasting-2.ensures.cause
    (λ failed. failed)

pub returns-in_err-write_lasting-clause-crash : goal.returns-in_err-write_lasting-clause-crash
returns-in_err-write_lasting-clause-crash g c =
    let slot : Slot = c.args.from.now.slot in
    let k : Sealing = new_sealing c.args.p.now c.args.pim c.args.prf c.args.from.now in
    let f : Fields = c.args.from.now.fields in
    weaker g.D.Store.tells (g.D.Store.moment c.args.disk.now) (g.D.Store.moment c.write_lasting.new.disk)
    (g.D.Store.left_since c.args.disk.now) (g.D.Store.left_since c.write_lasting.new.disk)
    (g.D.Store.may_leave c.args.disk.now) (g.D.Store.may_leave c.write_lasting.new.disk)
    (SameOutside (place_of c.pair_of-primary.result.0 c.len-len.result) 512) (Changes slot k f)
    (λ _ x after. early slot k f (g.D.Store.may_leave c.args.disk.now) x (in_primary slot c.pair_of-primary.result.0 c.len-len.result (g.D.Store.may_leave c.args.disk.now) c.pair_of-primary.ensures.primary x after))
    c.write_lasting.ensures.crash

pub returns-in_err-write_lasting-clause-either_carries : goal.returns-in_err-write_lasting-clause-either_carries
returns-in_err-write_lasting-clause-either_carries g c =
    let slot : Slot = c.args.from.now.slot in
    let k : Sealing = new_sealing c.args.p.now c.args.pim c.args.prf c.args.from.now in
    let f : Fields = c.args.from.now.fields in
    stays_in_either HasFields fields_last g.D.Store.tells (g.D.Store.may_leave c.args.disk.now) (g.D.Store.left_since c.write_lasting.new.disk (g.D.Store.moment c.args.disk.now)) slot k f
    (since_start g.D.Store.tells (g.D.Store.moment c.args.disk.now) (g.D.Store.moment c.write_lasting.new.disk)
    (g.D.Store.left_since c.args.disk.now) (g.D.Store.left_since c.write_lasting.new.disk)
    (g.D.Store.may_leave c.args.disk.now) (g.D.Store.may_leave c.write_lasting.new.disk) (Changes slot k f)
    (returns-in_err-write_lasting-clause-crash g c)
    (λ modelled x left. g.met.D.Store.only_now modelled c.args.disk.now x left))

pub returns-in_err-write_lasting-clause-either_opens : goal.returns-in_err-write_lasting-clause-either_opens
returns-in_err-write_lasting-clause-either_opens g c =
    let slot : Slot = c.args.from.now.slot in
    let k : Sealing = new_sealing c.args.p.now c.args.pim c.args.prf c.args.from.now in
    let f : Fields = c.args.from.now.fields in
    stays_in_either IsOpen openings_last g.D.Store.tells (g.D.Store.may_leave c.args.disk.now) (g.D.Store.left_since c.write_lasting.new.disk (g.D.Store.moment c.args.disk.now)) slot k f
    (since_start g.D.Store.tells (g.D.Store.moment c.args.disk.now) (g.D.Store.moment c.write_lasting.new.disk)
    (g.D.Store.left_since c.args.disk.now) (g.D.Store.left_since c.write_lasting.new.disk)
    (g.D.Store.may_leave c.args.disk.now) (g.D.Store.may_leave c.write_lasting.new.disk) (Changes slot k f)
    (returns-in_err-write_lasting-clause-crash g c)
    (λ modelled x left. g.met.D.Store.only_now modelled c.args.disk.now x left))

pub returns-clause-crash : goal.returns-clause-crash
returns-clause-crash g c =
    let slot : Slot = c.args.from.now.slot in
    let k : Sealing = new_sealing c.args.p.now c.args.pim c.args.prf c.args.from.now in
    let f : Fields = c.args.from.now.fields in
    in_turn g.D.Store.tells (g.D.Store.moment c.args.disk.now) (g.D.Store.moment c.write_lasting.new.disk) (g.D.Store.moment c.write_lasting-2.new.disk)
    (g.D.Store.left_since c.args.disk.now) (g.D.Store.left_since c.write_lasting.new.disk) (g.D.Store.left_since c.write_lasting-2.new.disk)
    (g.D.Store.may_leave c.args.disk.now) (g.D.Store.may_leave c.write_lasting.new.disk) (g.D.Store.may_leave c.write_lasting-2.new.disk)
    (SameOutside (place_of c.pair_of-primary.result.0 c.len-len.result) 512) (SameOutside (place_of c.pair_of-primary.result.1 c.len-len.result) 512) (Changes slot k f)
    (λ _ x after. early slot k f (g.D.Store.may_leave c.args.disk.now) x (in_primary slot c.pair_of-primary.result.0 c.len-len.result (g.D.Store.may_leave c.args.disk.now) c.pair_of-primary.ensures.primary x after))
    (λ modelled x after. late c.headers_open_again.ensures slot c.pair_of-primary.result.1 k f c.next_salt-salt.result
    (g.D.Store.size c.args.disk.now) c.len-len.result (g.D.Store.image c.args.disk.now) (g.D.Store.image c.write_lasting.new.disk)
    (g.D.Store.may_leave c.args.disk.now) (g.D.Store.may_leave c.write_lasting.new.disk)
    (long_enough f slot (g.D.Store.size c.args.disk.now) c.requires.meets) (omega arith) c.new_header-header.ensures.opens_again
    c.pair_of-primary.ensures.backup c.len-len.ensures.len (g.met.D.Store.image_is_whole c.args.disk.now)
    (has_written (primary_of slot) c.pair_of-primary.result.0 k c.next_salt-salt.result c.new_header-header.result f c.len-len.result
    (g.D.Store.size c.args.disk.now) (g.D.Store.image c.args.disk.now) (g.D.Store.image c.write_lasting.new.disk) c.pair_of-primary.ensures.primary c.len-len.ensures.len
    c.new_header-header.ensures.header (g.met.D.Store.image_is_whole c.args.disk.now) c.in_ok-write_lasting.ensures.written)
    (g.met.D.Store.image_may_stay c.args.disk.now modelled) (c.in_ok-write_lasting.ensures.lasting modelled) x after)
    c.write_lasting.ensures.crash c.write_lasting-2.ensures.crash

pub returns-clause-either_carries : goal.returns-clause-either_carries
returns-clause-either_carries g c =
    let slot : Slot = c.args.from.now.slot in
    let k : Sealing = new_sealing c.args.p.now c.args.pim c.args.prf c.args.from.now in
    let f : Fields = c.args.from.now.fields in
    stays_in_either HasFields fields_last g.D.Store.tells (g.D.Store.may_leave c.args.disk.now) (g.D.Store.left_since c.write_lasting-2.new.disk (g.D.Store.moment c.args.disk.now)) slot k f
    (since_start g.D.Store.tells (g.D.Store.moment c.args.disk.now) (g.D.Store.moment c.write_lasting-2.new.disk)
    (g.D.Store.left_since c.args.disk.now) (g.D.Store.left_since c.write_lasting-2.new.disk)
    (g.D.Store.may_leave c.args.disk.now) (g.D.Store.may_leave c.write_lasting-2.new.disk) (Changes slot k f)
    (returns-clause-crash g c)
    (λ modelled x left. g.met.D.Store.only_now modelled c.args.disk.now x left))

pub returns-clause-either_opens : goal.returns-clause-either_opens
returns-clause-either_opens g c =
    let slot : Slot = c.args.from.now.slot in
    let k : Sealing = new_sealing c.args.p.now c.args.pim c.args.prf c.args.from.now in
    let f : Fields = c.args.from.now.fields in
    stays_in_either IsOpen openings_last g.D.Store.tells (g.D.Store.may_leave c.args.disk.now) (g.D.Store.left_since c.write_lasting-2.new.disk (g.D.Store.moment c.args.disk.now)) slot k f
    (since_start g.D.Store.tells (g.D.Store.moment c.args.disk.now) (g.D.Store.moment c.write_lasting-2.new.disk)
    (g.D.Store.left_since c.args.disk.now) (g.D.Store.left_since c.write_lasting-2.new.disk)
    (g.D.Store.may_leave c.args.disk.now) (g.D.Store.may_leave c.write_lasting-2.new.disk) (Changes slot k f)
    (returns-clause-crash g c)
    (λ modelled x left. g.met.D.Store.only_now modelled c.args.disk.now x left))
