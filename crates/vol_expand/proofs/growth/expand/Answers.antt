use Rattle.std.proofs.Common.{◌≡◌, ◌≤◌, ◌-◌, ℕ, length, subst, sym, arith}
use Rattle.std.specs.Prelude.{IfSome}
use Rattle.vc_outside.specs.Told.{Both, resized, written}
use Rattle.vc_layout.specs.declared.kind.Kind.TheVariants.{StandardOnly}
use Rattle.vc_layout.specs.declared.slots.Slot.TheVariants.{Standard, BackupStandard}
use Rattle.vc_header.specs.Header.{Meets}
use Rattle.header_seal.specs.declared.opened.Opened.{Opened}
use Rattle.volume_format.specs.Formatted.{with_body}
use Rattle.volume_format.specs.Hidden.{with_header}
use Rattle.volume_format.specs.Opens.{HasBothHeaders}
use Rattle.volume_format.specs.Stream.{stream_bytes}
use Rattle.header_change.specs.Changed.{new_sealing}
use Rattle.header_change.specs.Moments.{AtEachMoment}
use Rattle.header_change.proofs.Moments.{since_start}
use Rattle.vol_expand.specs.Expanded.{expanded_fields, fill_bytes, words_of}
use Rattle.vol_expand.specs.Stops.{Carries, Expands, IsOpened, PartsStay}
use Rattle.vol_expand.proofs.Arrays.{arrays_begin}
use Rattle.vol_expand.proofs.Growing.{ends_before, long_enough, meets_grown, meets_longer, meets_standard, of_opened, tested, Expandable}
use Rattle.vol_expand.proofs.Headers.{expanded_from}
use Rattle.vol_expand.proofs.Moments.{length_then, lengthened}
use Rattle.vol_expand.proofs.Opening.{carried_lasts, fits_container, old_or_new, opened_lasts, still_old}
use Rattle.vol_expand.proofs.Parts.{both_fewer, both_resized, both_then, in_the_end}
use Rattle.vol_expand.proofs.growth.expand.Goals as goal

pub returns-then-not-is_expandable-clause-either_carries :
    goal.returns-then-not-is_expandable-clause-either_carries
returns-then-not-is_expandable-clause-either_carries g c =
    still_old Carries (new_sealing c.args.p.now c.args.pim c.args.from.now.prf c.args.from.now)
    c.args.from.now.fields (g.D.Store.size c.args.disk.now) c.args.size g.D.Store.tells (g.D.Store.image c.args.disk.now)
    (g.D.Store.may_leave c.args.disk.now) (g.D.Store.left_since c.args.disk.now (g.D.Store.moment c.args.disk.now))
    (meets_standard c.args.from.now.slot c.args.from.now.fields (g.D.Store.size c.args.disk.now) c.requires.slot c.requires.meets)
    (g.met.D.Store.image_is_whole c.args.disk.now)
    (λ modelled x left. g.met.D.Store.only_now modelled c.args.disk.now x left)

pub returns-then-not-is_expandable-clause-either_opens :
    goal.returns-then-not-is_expandable-clause-either_opens
returns-then-not-is_expandable-clause-either_opens g c =
    still_old IsOpened (new_sealing c.args.p.now c.args.pim c.args.from.now.prf c.args.from.now)
    c.args.from.now.fields (g.D.Store.size c.args.disk.now) c.args.size g.D.Store.tells (g.D.Store.image c.args.disk.now)
    (g.D.Store.may_leave c.args.disk.now) (g.D.Store.left_since c.args.disk.now (g.D.Store.moment c.args.disk.now))
    (meets_standard c.args.from.now.slot c.args.from.now.fields (g.D.Store.size c.args.disk.now) c.requires.slot c.requires.meets)
    (g.met.D.Store.image_is_whole c.args.disk.now)
    (λ modelled x left. g.met.D.Store.only_now modelled c.args.disk.now x left)

pub rewrite-requires-clause-meets : goal.rewrite-requires-clause-meets
rewrite-requires-clause-meets g c =
    subst (λ (o : Opened). Meets o.fields Standard c.args.size) (sym c.grown.ensures)
    (meets_grown c.args.from.now.fields (g.D.Store.size c.args.disk.now) c.args.size
    (tested c.len-len.result (g.D.Store.size c.args.disk.now) c.args.size c.args.from.now.fields.sector
    c.is_expandable.result c.is_expandable.ensures c.if-not-is_expandable.false c.len-len.ensures.len)
    (meets_standard c.args.from.now.slot c.args.from.now.fields (g.D.Store.size c.args.disk.now) c.requires.slot c.requires.meets))

pub returns-in-Ok-rewrite-clause-expanded : goal.returns-in-Ok-rewrite-clause-expanded
returns-in-Ok-rewrite-clause-expanded g c =
    let can : Expandable (g.D.Store.size c.args.disk.now) c.args.size c.args.from.now.fields.sector
    = tested c.len-len.result (g.D.Store.size c.args.disk.now) c.args.size c.args.from.now.fields.sector
    c.is_expandable.result c.is_expandable.ensures c.if-not-is_expandable.false c.len-len.ensures.len in
    let long : 262656 ≤ g.D.Store.size c.args.disk.now
    = long_enough c.args.from.now.fields (g.D.Store.size c.args.disk.now) (meets_standard c.args.from.now.slot c.args.from.now.fields (g.D.Store.size c.args.disk.now) c.requires.slot c.requires.meets) in
    expanded_from c.args.rng.now (new_sealing c.args.p.now c.args.pim c.args.from.now.prf c.args.from.now)
    c.args.from.now.fields (g.D.Store.size c.args.disk.now) c.args.size (g.D.Store.image c.args.disk.now) (g.D.Store.image c.set_len.new.self) (g.D.Store.image c.rewrite.new.disk)
    long can.longer (g.met.D.Store.image_is_whole c.args.disk.now) c.in-Ok.ensures.resized
    (of_opened c.grown.result c.args.from.now c.args.p.now c.args.pim c.args.size c.len-len.result (g.D.Store.size c.args.disk.now)
    c.grown.ensures c.len-len.ensures.len
    (λ n k f. Both (g.D.Store.image c.set_len.new.self) (g.D.Store.image c.rewrite.new.disk) (λ b d. d ≡ with_header k
    (stream_bytes c.args.rng.now (words_of (c.args.size - (n - 131072))) 64) f Standard (with_body k f BackupStandard
    (written (n - 131072) (fill_bytes c.args.rng.now (c.args.size - (n - 131072))) b))))
    c.in-Ok-rewrite.ensures.written)

pub returns-in-Ok-rewrite-clause-headers : goal.returns-in-Ok-rewrite-clause-headers
returns-in-Ok-rewrite-clause-headers g c =
    let can : Expandable (g.D.Store.size c.args.disk.now) c.args.size c.args.from.now.fields.sector
    = tested c.len-len.result (g.D.Store.size c.args.disk.now) c.args.size c.args.from.now.fields.sector
    c.is_expandable.result c.is_expandable.ensures c.if-not-is_expandable.false c.len-len.ensures.len in
    let long : 262656 ≤ g.D.Store.size c.args.disk.now
    = long_enough c.args.from.now.fields (g.D.Store.size c.args.disk.now) (meets_standard c.args.from.now.slot c.args.from.now.fields (g.D.Store.size c.args.disk.now) c.requires.slot c.requires.meets) in
    in_the_end (g.D.Store.image c.args.disk.now) (g.D.Store.image c.set_len.new.self) (g.D.Store.image c.rewrite.new.disk)
    (λ b d. d ≡ resized c.args.size b)
    (HasBothHeaders StandardOnly Standard BackupStandard (new_sealing c.args.p.now c.args.pim c.args.from.now.prf c.args.from.now) (expanded_fields c.args.size c.args.from.now.fields))
    c.in-Ok.ensures.resized
    (of_opened c.grown.result c.args.from.now c.args.p.now c.args.pim c.args.size c.len-len.result (g.D.Store.size c.args.disk.now)
    c.grown.ensures c.len-len.ensures.len
    (λ n k f. Both (g.D.Store.image c.set_len.new.self) (g.D.Store.image c.rewrite.new.disk) (λ _ d. HasBothHeaders StandardOnly Standard BackupStandard k f d))
    c.in-Ok-rewrite.ensures.headers)

pub returns-in-Ok-rewrite-clause-outside : goal.returns-in-Ok-rewrite-clause-outside
returns-in-Ok-rewrite-clause-outside g c =
    let can : Expandable (g.D.Store.size c.args.disk.now) c.args.size c.args.from.now.fields.sector
    = tested c.len-len.result (g.D.Store.size c.args.disk.now) c.args.size c.args.from.now.fields.sector
    c.is_expandable.result c.is_expandable.ensures c.if-not-is_expandable.false c.len-len.ensures.len in
    let long : 262656 ≤ g.D.Store.size c.args.disk.now
    = long_enough c.args.from.now.fields (g.D.Store.size c.args.disk.now) (meets_standard c.args.from.now.slot c.args.from.now.fields (g.D.Store.size c.args.disk.now) c.requires.slot c.requires.meets) in
    both_then 512 (g.D.Store.size c.args.disk.now - 131072) c.args.size (g.D.Store.image c.args.disk.now) (g.D.Store.image c.set_len.new.self) (g.D.Store.image c.rewrite.new.disk)
    (omega (arith, can.longer))
    (subst (λ (n : ℕ). IfSome (g.D.Store.image c.set_len.new.self) (λ b. length b ≡ n)) c.in-Ok.ensures.size
    (g.met.D.Store.image_is_whole c.set_len.new.self))
    (both_fewer 0 (g.D.Store.size c.args.disk.now - 131072) 512 (g.D.Store.size c.args.disk.now - 131072) (g.D.Store.image c.args.disk.now) (g.D.Store.image c.set_len.new.self)
    (omega arith) (omega arith)
    (both_resized (g.D.Store.size c.args.disk.now - 131072) c.args.size (g.D.Store.image c.args.disk.now) (g.D.Store.image c.set_len.new.self) (omega (arith, can.longer)) c.in-Ok.ensures.resized))
    (of_opened c.grown.result c.args.from.now c.args.p.now c.args.pim c.args.size c.len-len.result (g.D.Store.size c.args.disk.now)
    c.grown.ensures c.len-len.ensures.len
    (λ n k f. Both (g.D.Store.image c.set_len.new.self) (g.D.Store.image c.rewrite.new.disk) (PartsStay 512 (n - 131072)))
    c.rewrite.ensures.outside)

pub returns-in-Ok-rewrite-clause-array : goal.returns-in-Ok-rewrite-clause-array
returns-in-Ok-rewrite-clause-array g c =
    let can : Expandable (g.D.Store.size c.args.disk.now) c.args.size c.args.from.now.fields.sector
    = tested c.len-len.result (g.D.Store.size c.args.disk.now) c.args.size c.args.from.now.fields.sector
    c.is_expandable.result c.is_expandable.ensures c.if-not-is_expandable.false c.len-len.ensures.len in
    let meets : Meets c.args.from.now.fields Standard (g.D.Store.size c.args.disk.now)
    = meets_standard c.args.from.now.slot c.args.from.now.fields (g.D.Store.size c.args.disk.now) c.requires.slot c.requires.meets in
    arrays_begin c.args.from.now.algorithm c.args.from.now.fields
    (c.args.size - 131072 - c.args.from.now.fields.start) (c.args.size - 131072 - c.args.from.now.fields.start)
    (g.D.Store.size c.args.disk.now) (g.D.Store.image c.args.disk.now) (g.D.Store.image c.rewrite.new.disk) meets
    (omega (arith, ends_before c.args.from.now.fields (g.D.Store.size c.args.disk.now) meets, can.longer))
    (g.met.D.Store.image_is_whole c.args.disk.now) (returns-in-Ok-rewrite-clause-outside g c)

pub returns-in-Ok-rewrite-clause-crash : goal.returns-in-Ok-rewrite-clause-crash
returns-in-Ok-rewrite-clause-crash g c =
    let can : Expandable (g.D.Store.size c.args.disk.now) c.args.size c.args.from.now.fields.sector
    = tested c.len-len.result (g.D.Store.size c.args.disk.now) c.args.size c.args.from.now.fields.sector
    c.is_expandable.result c.is_expandable.ensures c.if-not-is_expandable.false c.len-len.ensures.len in
    let long : 262656 ≤ g.D.Store.size c.args.disk.now
    = long_enough c.args.from.now.fields (g.D.Store.size c.args.disk.now) (meets_standard c.args.from.now.slot c.args.from.now.fields (g.D.Store.size c.args.disk.now) c.requires.slot c.requires.meets) in
    length_then (new_sealing c.args.p.now c.args.pim c.args.from.now.prf c.args.from.now) (expanded_fields c.args.size c.args.from.now.fields)
    (g.D.Store.size c.args.disk.now - 131072) c.args.size (omega (arith, long)) (omega (arith, can.longer)) g.D.Store.tells
    (g.D.Store.moment c.args.disk.now) (g.D.Store.moment c.set_len.new.self) (g.D.Store.moment c.rewrite.new.disk)
    (g.D.Store.left_since c.args.disk.now) (g.D.Store.left_since c.set_len.new.self) (g.D.Store.left_since c.rewrite.new.disk)
    (g.D.Store.may_leave c.args.disk.now) (g.D.Store.may_leave c.set_len.new.self) (g.D.Store.may_leave c.rewrite.new.disk)
    c.set_len.ensures.crash
    (of_opened c.grown.result c.args.from.now c.args.p.now c.args.pim c.args.size c.len-len.result (g.D.Store.size c.args.disk.now)
    c.grown.ensures c.len-len.ensures.len
    (λ n k f. AtEachMoment g.D.Store.tells (g.D.Store.moment c.set_len.new.self) (g.D.Store.moment c.rewrite.new.disk)
    (g.D.Store.left_since c.set_len.new.self) (g.D.Store.left_since c.rewrite.new.disk)
    (g.D.Store.may_leave c.set_len.new.self) (g.D.Store.may_leave c.rewrite.new.disk) (Expands (n - 131072) c.args.size k f))
    c.rewrite.ensures.crash)

pub returns-in-Err-clause-outside : goal.returns-in-Err-clause-outside
returns-in-Err-clause-outside g c =
    let can : Expandable (g.D.Store.size c.args.disk.now) c.args.size c.args.from.now.fields.sector
    = tested c.len-len.result (g.D.Store.size c.args.disk.now) c.args.size c.args.from.now.fields.sector
    c.is_expandable.result c.is_expandable.ensures c.if-not-is_expandable.false c.len-len.ensures.len in
    let long : 262656 ≤ g.D.Store.size c.args.disk.now
    = long_enough c.args.from.now.fields (g.D.Store.size c.args.disk.now) (meets_standard c.args.from.now.slot c.args.from.now.fields (g.D.Store.size c.args.disk.now) c.requires.slot c.requires.meets) in
    both_then 512 (g.D.Store.size c.args.disk.now - 131072) c.args.size (g.D.Store.image c.args.disk.now) (g.D.Store.image c.set_len.new.self) (g.D.Store.image c.rewrite.new.disk)
    (omega (arith, can.longer))
    (subst (λ (n : ℕ). IfSome (g.D.Store.image c.set_len.new.self) (λ b. length b ≡ n)) c.in-Ok.ensures.size
    (g.met.D.Store.image_is_whole c.set_len.new.self))
    (both_fewer 0 (g.D.Store.size c.args.disk.now - 131072) 512 (g.D.Store.size c.args.disk.now - 131072) (g.D.Store.image c.args.disk.now) (g.D.Store.image c.set_len.new.self)
    (omega arith) (omega arith)
    (both_resized (g.D.Store.size c.args.disk.now - 131072) c.args.size (g.D.Store.image c.args.disk.now) (g.D.Store.image c.set_len.new.self) (omega (arith, can.longer)) c.in-Ok.ensures.resized))
    (of_opened c.grown.result c.args.from.now c.args.p.now c.args.pim c.args.size c.len-len.result (g.D.Store.size c.args.disk.now)
    c.grown.ensures c.len-len.ensures.len
    (λ n k f. Both (g.D.Store.image c.set_len.new.self) (g.D.Store.image c.rewrite.new.disk) (PartsStay 512 (n - 131072)))
    c.rewrite.ensures.outside)

pub returns-in-Err-clause-crash : goal.returns-in-Err-clause-crash
returns-in-Err-clause-crash g c =
    let can : Expandable (g.D.Store.size c.args.disk.now) c.args.size c.args.from.now.fields.sector
    = tested c.len-len.result (g.D.Store.size c.args.disk.now) c.args.size c.args.from.now.fields.sector
    c.is_expandable.result c.is_expandable.ensures c.if-not-is_expandable.false c.len-len.ensures.len in
    let long : 262656 ≤ g.D.Store.size c.args.disk.now
    = long_enough c.args.from.now.fields (g.D.Store.size c.args.disk.now) (meets_standard c.args.from.now.slot c.args.from.now.fields (g.D.Store.size c.args.disk.now) c.requires.slot c.requires.meets) in
    length_then (new_sealing c.args.p.now c.args.pim c.args.from.now.prf c.args.from.now) (expanded_fields c.args.size c.args.from.now.fields)
    (g.D.Store.size c.args.disk.now - 131072) c.args.size (omega (arith, long)) (omega (arith, can.longer)) g.D.Store.tells
    (g.D.Store.moment c.args.disk.now) (g.D.Store.moment c.set_len.new.self) (g.D.Store.moment c.rewrite.new.disk)
    (g.D.Store.left_since c.args.disk.now) (g.D.Store.left_since c.set_len.new.self) (g.D.Store.left_since c.rewrite.new.disk)
    (g.D.Store.may_leave c.args.disk.now) (g.D.Store.may_leave c.set_len.new.self) (g.D.Store.may_leave c.rewrite.new.disk)
    c.set_len.ensures.crash
    (of_opened c.grown.result c.args.from.now c.args.p.now c.args.pim c.args.size c.len-len.result (g.D.Store.size c.args.disk.now)
    c.grown.ensures c.len-len.ensures.len
    (λ n k f. AtEachMoment g.D.Store.tells (g.D.Store.moment c.set_len.new.self) (g.D.Store.moment c.rewrite.new.disk)
    (g.D.Store.left_since c.set_len.new.self) (g.D.Store.left_since c.rewrite.new.disk)
    (g.D.Store.may_leave c.set_len.new.self) (g.D.Store.may_leave c.rewrite.new.disk) (Expands (n - 131072) c.args.size k f))
    c.rewrite.ensures.crash)

pub returns-in-Err-NoMemory-clause-crash : goal.returns-in-Err-NoMemory-clause-crash
returns-in-Err-NoMemory-clause-crash g c =
    let can : Expandable (g.D.Store.size c.args.disk.now) c.args.size c.args.from.now.fields.sector
    = tested c.len-len.result (g.D.Store.size c.args.disk.now) c.args.size c.args.from.now.fields.sector
    c.is_expandable.result c.is_expandable.ensures c.if-not-is_expandable.false c.len-len.ensures.len in
    let long : 262656 ≤ g.D.Store.size c.args.disk.now
    = long_enough c.args.from.now.fields (g.D.Store.size c.args.disk.now) (meets_standard c.args.from.now.slot c.args.from.now.fields (g.D.Store.size c.args.disk.now) c.requires.slot c.requires.meets) in
    lengthened (new_sealing c.args.p.now c.args.pim c.args.from.now.prf c.args.from.now) (expanded_fields c.args.size c.args.from.now.fields)
    (g.D.Store.size c.args.disk.now - 131072) c.args.size (omega (arith, long)) (omega (arith, can.longer)) g.D.Store.tells
    (g.D.Store.moment c.args.disk.now) (g.D.Store.moment c.set_len.new.self)
    (g.D.Store.left_since c.args.disk.now) (g.D.Store.left_since c.set_len.new.self)
    (g.D.Store.may_leave c.args.disk.now) (g.D.Store.may_leave c.set_len.new.self)
    c.set_len.ensures.crash

pub returns-in-Err-Failed-clause-crash : goal.returns-in-Err-Failed-clause-crash
returns-in-Err-Failed-clause-crash g c =
    let can : Expandable (g.D.Store.size c.args.disk.now) c.args.size c.args.from.now.fields.sector
    = tested c.len-len.result (g.D.Store.size c.args.disk.now) c.args.size c.args.from.now.fields.sector
    c.is_expandable.result c.is_expandable.ensures c.if-not-is_expandable.false c.len-len.ensures.len in
    let long : 262656 ≤ g.D.Store.size c.args.disk.now
    = long_enough c.args.from.now.fields (g.D.Store.size c.args.disk.now) (meets_standard c.args.from.now.slot c.args.from.now.fields (g.D.Store.size c.args.disk.now) c.requires.slot c.requires.meets) in
    lengthened (new_sealing c.args.p.now c.args.pim c.args.from.now.prf c.args.from.now) (expanded_fields c.args.size c.args.from.now.fields)
    (g.D.Store.size c.args.disk.now - 131072) c.args.size (omega (arith, long)) (omega (arith, can.longer)) g.D.Store.tells
    (g.D.Store.moment c.args.disk.now) (g.D.Store.moment c.set_len.new.self)
    (g.D.Store.left_since c.args.disk.now) (g.D.Store.left_since c.set_len.new.self)
    (g.D.Store.may_leave c.args.disk.now) (g.D.Store.may_leave c.set_len.new.self)
    c.set_len.ensures.crash

pub returns-in-Ok-rewrite-clause-either_carries : goal.returns-in-Ok-rewrite-clause-either_carries
returns-in-Ok-rewrite-clause-either_carries g c =
    let can : Expandable (g.D.Store.size c.args.disk.now) c.args.size c.args.from.now.fields.sector
    = tested c.len-len.result (g.D.Store.size c.args.disk.now) c.args.size c.args.from.now.fields.sector
    c.is_expandable.result c.is_expandable.ensures c.if-not-is_expandable.false c.len-len.ensures.len in
    let long : 262656 ≤ g.D.Store.size c.args.disk.now
    = long_enough c.args.from.now.fields (g.D.Store.size c.args.disk.now) (meets_standard c.args.from.now.slot c.args.from.now.fields (g.D.Store.size c.args.disk.now) c.requires.slot c.requires.meets) in
    old_or_new Carries c.args.from.now.fields (g.D.Store.size c.args.disk.now) c.args.size
    (carried_lasts c.args.from.now.fields c.args.size) can (meets_standard c.args.from.now.slot c.args.from.now.fields (g.D.Store.size c.args.disk.now) c.requires.slot c.requires.meets)
    (new_sealing c.args.p.now c.args.pim c.args.from.now.prf c.args.from.now) g.D.Store.tells (g.D.Store.image c.args.disk.now) (g.D.Store.may_leave c.args.disk.now)
    (g.D.Store.left_since c.rewrite.new.disk (g.D.Store.moment c.args.disk.now))
    (g.met.D.Store.image_is_whole c.args.disk.now)
    (since_start g.D.Store.tells (g.D.Store.moment c.args.disk.now) (g.D.Store.moment c.rewrite.new.disk)
    (g.D.Store.left_since c.args.disk.now) (g.D.Store.left_since c.rewrite.new.disk)
    (g.D.Store.may_leave c.args.disk.now) (g.D.Store.may_leave c.rewrite.new.disk)
    (Expands (g.D.Store.size c.args.disk.now - 131072) c.args.size (new_sealing c.args.p.now c.args.pim c.args.from.now.prf c.args.from.now)
    (expanded_fields c.args.size c.args.from.now.fields))
    (returns-in-Ok-rewrite-clause-crash g c)
    (λ modelled x left. g.met.D.Store.only_now modelled c.args.disk.now x left))

pub returns-in-Ok-rewrite-clause-either_opens : goal.returns-in-Ok-rewrite-clause-either_opens
returns-in-Ok-rewrite-clause-either_opens g c =
    let can : Expandable (g.D.Store.size c.args.disk.now) c.args.size c.args.from.now.fields.sector
    = tested c.len-len.result (g.D.Store.size c.args.disk.now) c.args.size c.args.from.now.fields.sector
    c.is_expandable.result c.is_expandable.ensures c.if-not-is_expandable.false c.len-len.ensures.len in
    let long : 262656 ≤ g.D.Store.size c.args.disk.now
    = long_enough c.args.from.now.fields (g.D.Store.size c.args.disk.now) (meets_standard c.args.from.now.slot c.args.from.now.fields (g.D.Store.size c.args.disk.now) c.requires.slot c.requires.meets) in
    old_or_new IsOpened c.args.from.now.fields (g.D.Store.size c.args.disk.now) c.args.size
    (opened_lasts c.args.from.now.fields c.args.size
    (fits_container c.args.from.now.fields (g.D.Store.size c.args.disk.now) c.args.size can (meets_standard c.args.from.now.slot c.args.from.now.fields (g.D.Store.size c.args.disk.now) c.requires.slot c.requires.meets))
    (meets_longer c.args.from.now.fields (g.D.Store.size c.args.disk.now) c.args.size (omega (arith, can.longer)) (meets_standard c.args.from.now.slot c.args.from.now.fields (g.D.Store.size c.args.disk.now) c.requires.slot c.requires.meets))) can (meets_standard c.args.from.now.slot c.args.from.now.fields (g.D.Store.size c.args.disk.now) c.requires.slot c.requires.meets)
    (new_sealing c.args.p.now c.args.pim c.args.from.now.prf c.args.from.now) g.D.Store.tells (g.D.Store.image c.args.disk.now) (g.D.Store.may_leave c.args.disk.now)
    (g.D.Store.left_since c.rewrite.new.disk (g.D.Store.moment c.args.disk.now))
    (g.met.D.Store.image_is_whole c.args.disk.now)
    (since_start g.D.Store.tells (g.D.Store.moment c.args.disk.now) (g.D.Store.moment c.rewrite.new.disk)
    (g.D.Store.left_since c.args.disk.now) (g.D.Store.left_since c.rewrite.new.disk)
    (g.D.Store.may_leave c.args.disk.now) (g.D.Store.may_leave c.rewrite.new.disk)
    (Expands (g.D.Store.size c.args.disk.now - 131072) c.args.size (new_sealing c.args.p.now c.args.pim c.args.from.now.prf c.args.from.now)
    (expanded_fields c.args.size c.args.from.now.fields))
    (returns-in-Ok-rewrite-clause-crash g c)
    (λ modelled x left. g.met.D.Store.only_now modelled c.args.disk.now x left))

pub returns-in-Err-clause-either_carries : goal.returns-in-Err-clause-either_carries
returns-in-Err-clause-either_carries g c =
    let can : Expandable (g.D.Store.size c.args.disk.now) c.args.size c.args.from.now.fields.sector
    = tested c.len-len.result (g.D.Store.size c.args.disk.now) c.args.size c.args.from.now.fields.sector
    c.is_expandable.result c.is_expandable.ensures c.if-not-is_expandable.false c.len-len.ensures.len in
    let long : 262656 ≤ g.D.Store.size c.args.disk.now
    = long_enough c.args.from.now.fields (g.D.Store.size c.args.disk.now) (meets_standard c.args.from.now.slot c.args.from.now.fields (g.D.Store.size c.args.disk.now) c.requires.slot c.requires.meets) in
    old_or_new Carries c.args.from.now.fields (g.D.Store.size c.args.disk.now) c.args.size
    (carried_lasts c.args.from.now.fields c.args.size) can (meets_standard c.args.from.now.slot c.args.from.now.fields (g.D.Store.size c.args.disk.now) c.requires.slot c.requires.meets)
    (new_sealing c.args.p.now c.args.pim c.args.from.now.prf c.args.from.now) g.D.Store.tells (g.D.Store.image c.args.disk.now) (g.D.Store.may_leave c.args.disk.now)
    (g.D.Store.left_since c.rewrite.new.disk (g.D.Store.moment c.args.disk.now))
    (g.met.D.Store.image_is_whole c.args.disk.now)
    (since_start g.D.Store.tells (g.D.Store.moment c.args.disk.now) (g.D.Store.moment c.rewrite.new.disk)
    (g.D.Store.left_since c.args.disk.now) (g.D.Store.left_since c.rewrite.new.disk)
    (g.D.Store.may_leave c.args.disk.now) (g.D.Store.may_leave c.rewrite.new.disk)
    (Expands (g.D.Store.size c.args.disk.now - 131072) c.args.size (new_sealing c.args.p.now c.args.pim c.args.from.now.prf c.args.from.now)
    (expanded_fields c.args.size c.args.from.now.fields))
    (returns-in-Err-clause-crash g c)
    (λ modelled x left. g.met.D.Store.only_now modelled c.args.disk.now x left))

pub returns-in-Err-clause-either_opens : goal.returns-in-Err-clause-either_opens
returns-in-Err-clause-either_opens g c =
    let can : Expandable (g.D.Store.size c.args.disk.now) c.args.size c.args.from.now.fields.sector
    = tested c.len-len.result (g.D.Store.size c.args.disk.now) c.args.size c.args.from.now.fields.sector
    c.is_expandable.result c.is_expandable.ensures c.if-not-is_expandable.false c.len-len.ensures.len in
    let long : 262656 ≤ g.D.Store.size c.args.disk.now
    = long_enough c.args.from.now.fields (g.D.Store.size c.args.disk.now) (meets_standard c.args.from.now.slot c.args.from.now.fields (g.D.Store.size c.args.disk.now) c.requires.slot c.requires.meets) in
    old_or_new IsOpened c.args.from.now.fields (g.D.Store.size c.args.disk.now) c.args.size
    (opened_lasts c.args.from.now.fields c.args.size
    (fits_container c.args.from.now.fields (g.D.Store.size c.args.disk.now) c.args.size can (meets_standard c.args.from.now.slot c.args.from.now.fields (g.D.Store.size c.args.disk.now) c.requires.slot c.requires.meets))
    (meets_longer c.args.from.now.fields (g.D.Store.size c.args.disk.now) c.args.size (omega (arith, can.longer)) (meets_standard c.args.from.now.slot c.args.from.now.fields (g.D.Store.size c.args.disk.now) c.requires.slot c.requires.meets))) can (meets_standard c.args.from.now.slot c.args.from.now.fields (g.D.Store.size c.args.disk.now) c.requires.slot c.requires.meets)
    (new_sealing c.args.p.now c.args.pim c.args.from.now.prf c.args.from.now) g.D.Store.tells (g.D.Store.image c.args.disk.now) (g.D.Store.may_leave c.args.disk.now)
    (g.D.Store.left_since c.rewrite.new.disk (g.D.Store.moment c.args.disk.now))
    (g.met.D.Store.image_is_whole c.args.disk.now)
    (since_start g.D.Store.tells (g.D.Store.moment c.args.disk.now) (g.D.Store.moment c.rewrite.new.disk)
    (g.D.Store.left_since c.args.disk.now) (g.D.Store.left_since c.rewrite.new.disk)
    (g.D.Store.may_leave c.args.disk.now) (g.D.Store.may_leave c.rewrite.new.disk)
    (Expands (g.D.Store.size c.args.disk.now - 131072) c.args.size (new_sealing c.args.p.now c.args.pim c.args.from.now.prf c.args.from.now)
    (expanded_fields c.args.size c.args.from.now.fields))
    (returns-in-Err-clause-crash g c)
    (λ modelled x left. g.met.D.Store.only_now modelled c.args.disk.now x left))

pub returns-in-Err-NoMemory-clause-either_carries :
    goal.returns-in-Err-NoMemory-clause-either_carries
returns-in-Err-NoMemory-clause-either_carries g c =
    let can : Expandable (g.D.Store.size c.args.disk.now) c.args.size c.args.from.now.fields.sector
    = tested c.len-len.result (g.D.Store.size c.args.disk.now) c.args.size c.args.from.now.fields.sector
    c.is_expandable.result c.is_expandable.ensures c.if-not-is_expandable.false c.len-len.ensures.len in
    let long : 262656 ≤ g.D.Store.size c.args.disk.now
    = long_enough c.args.from.now.fields (g.D.Store.size c.args.disk.now) (meets_standard c.args.from.now.slot c.args.from.now.fields (g.D.Store.size c.args.disk.now) c.requires.slot c.requires.meets) in
    old_or_new Carries c.args.from.now.fields (g.D.Store.size c.args.disk.now) c.args.size
    (carried_lasts c.args.from.now.fields c.args.size) can (meets_standard c.args.from.now.slot c.args.from.now.fields (g.D.Store.size c.args.disk.now) c.requires.slot c.requires.meets)
    (new_sealing c.args.p.now c.args.pim c.args.from.now.prf c.args.from.now) g.D.Store.tells (g.D.Store.image c.args.disk.now) (g.D.Store.may_leave c.args.disk.now)
    (g.D.Store.left_since c.set_len.new.self (g.D.Store.moment c.args.disk.now))
    (g.met.D.Store.image_is_whole c.args.disk.now)
    (since_start g.D.Store.tells (g.D.Store.moment c.args.disk.now) (g.D.Store.moment c.set_len.new.self)
    (g.D.Store.left_since c.args.disk.now) (g.D.Store.left_since c.set_len.new.self)
    (g.D.Store.may_leave c.args.disk.now) (g.D.Store.may_leave c.set_len.new.self)
    (Expands (g.D.Store.size c.args.disk.now - 131072) c.args.size (new_sealing c.args.p.now c.args.pim c.args.from.now.prf c.args.from.now)
    (expanded_fields c.args.size c.args.from.now.fields))
    (returns-in-Err-NoMemory-clause-crash g c)
    (λ modelled x left. g.met.D.Store.only_now modelled c.args.disk.now x left))

pub returns-in-Err-NoMemory-clause-either_opens :
    goal.returns-in-Err-NoMemory-clause-either_opens
returns-in-Err-NoMemory-clause-either_opens g c =
    let can : Expandable (g.D.Store.size c.args.disk.now) c.args.size c.args.from.now.fields.sector
    = tested c.len-len.result (g.D.Store.size c.args.disk.now) c.args.size c.args.from.now.fields.sector
    c.is_expandable.result c.is_expandable.ensures c.if-not-is_expandable.false c.len-len.ensures.len in
    let long : 262656 ≤ g.D.Store.size c.args.disk.now
    = long_enough c.args.from.now.fields (g.D.Store.size c.args.disk.now) (meets_standard c.args.from.now.slot c.args.from.now.fields (g.D.Store.size c.args.disk.now) c.requires.slot c.requires.meets) in
    old_or_new IsOpened c.args.from.now.fields (g.D.Store.size c.args.disk.now) c.args.size
    (opened_lasts c.args.from.now.fields c.args.size
    (fits_container c.args.from.now.fields (g.D.Store.size c.args.disk.now) c.args.size can (meets_standard c.args.from.now.slot c.args.from.now.fields (g.D.Store.size c.args.disk.now) c.requires.slot c.requires.meets))
    (meets_longer c.args.from.now.fields (g.D.Store.size c.args.disk.now) c.args.size (omega (arith, can.longer)) (meets_standard c.args.from.now.slot c.args.from.now.fields (g.D.Store.size c.args.disk.now) c.requires.slot c.requires.meets))) can (meets_standard c.args.from.now.slot c.args.from.now.fields (g.D.Store.size c.args.disk.now) c.requires.slot c.requires.meets)
    (new_sealing c.args.p.now c.args.pim c.args.from.now.prf c.args.from.now) g.D.Store.tells (g.D.Store.image c.args.disk.now) (g.D.Store.may_leave c.args.disk.now)
    (g.D.Store.left_since c.set_len.new.self (g.D.Store.moment c.args.disk.now))
    (g.met.D.Store.image_is_whole c.args.disk.now)
    (since_start g.D.Store.tells (g.D.Store.moment c.args.disk.now) (g.D.Store.moment c.set_len.new.self)
    (g.D.Store.left_since c.args.disk.now) (g.D.Store.left_since c.set_len.new.self)
    (g.D.Store.may_leave c.args.disk.now) (g.D.Store.may_leave c.set_len.new.self)
    (Expands (g.D.Store.size c.args.disk.now - 131072) c.args.size (new_sealing c.args.p.now c.args.pim c.args.from.now.prf c.args.from.now)
    (expanded_fields c.args.size c.args.from.now.fields))
    (returns-in-Err-NoMemory-clause-crash g c)
    (λ modelled x left. g.met.D.Store.only_now modelled c.args.disk.now x left))

pub returns-in-Err-Failed-clause-either_carries : goal.returns-in-Err-Failed-clause-either_carries
returns-in-Err-Failed-clause-either_carries g c =
    let can : Expandable (g.D.Store.size c.args.disk.now) c.args.size c.args.from.now.fields.sector
    = tested c.len-len.result (g.D.Store.size c.args.disk.now) c.args.size c.args.from.now.fields.sector
    c.is_expandable.result c.is_expandable.ensures c.if-not-is_expandable.false c.len-len.ensures.len in
    let long : 262656 ≤ g.D.Store.size c.args.disk.now
    = long_enough c.args.from.now.fields (g.D.Store.size c.args.disk.now) (meets_standard c.args.from.now.slot c.args.from.now.fields (g.D.Store.size c.args.disk.now) c.requires.slot c.requires.meets) in
    old_or_new Carries c.args.from.now.fields (g.D.Store.size c.args.disk.now) c.args.size
    (carried_lasts c.args.from.now.fields c.args.size) can (meets_standard c.args.from.now.slot c.args.from.now.fields (g.D.Store.size c.args.disk.now) c.requires.slot c.requires.meets)
    (new_sealing c.args.p.now c.args.pim c.args.from.now.prf c.args.from.now) g.D.Store.tells (g.D.Store.image c.args.disk.now) (g.D.Store.may_leave c.args.disk.now)
    (g.D.Store.left_since c.set_len.new.self (g.D.Store.moment c.args.disk.now))
    (g.met.D.Store.image_is_whole c.args.disk.now)
    (since_start g.D.Store.tells (g.D.Store.moment c.args.disk.now) (g.D.Store.moment c.set_len.new.self)
    (g.D.Store.left_since c.args.disk.now) (g.D.Store.left_since c.set_len.new.self)
    (g.D.Store.may_leave c.args.disk.now) (g.D.Store.may_leave c.set_len.new.self)
    (Expands (g.D.Store.size c.args.disk.now - 131072) c.args.size (new_sealing c.args.p.now c.args.pim c.args.from.now.prf c.args.from.now)
    (expanded_fields c.args.size c.args.from.now.fields))
    (returns-in-Err-Failed-clause-crash g c)
    (λ modelled x left. g.met.D.Store.only_now modelled c.args.disk.now x left))

pub returns-in-Err-Failed-clause-either_opens : goal.returns-in-Err-Failed-clause-either_opens
returns-in-Err-Failed-clause-either_opens g c =
    let can : Expandable (g.D.Store.size c.args.disk.now) c.args.size c.args.from.now.fields.sector
    = tested c.len-len.result (g.D.Store.size c.args.disk.now) c.args.size c.args.from.now.fields.sector
    c.is_expandable.result c.is_expandable.ensures c.if-not-is_expandable.false c.len-len.ensures.len in
    let long : 262656 ≤ g.D.Store.size c.args.disk.now
    = long_enough c.args.from.now.fields (g.D.Store.size c.args.disk.now) (meets_standard c.args.from.now.slot c.args.from.now.fields (g.D.Store.size c.args.disk.now) c.requires.slot c.requires.meets) in
    old_or_new IsOpened c.args.from.now.fields (g.D.Store.size c.args.disk.now) c.args.size
    (opened_lasts c.args.from.now.fields c.args.size
    (fits_container c.args.from.now.fields (g.D.Store.size c.args.disk.now) c.args.size can (meets_standard c.args.from.now.slot c.args.from.now.fields (g.D.Store.size c.args.disk.now) c.requires.slot c.requires.meets))
    (meets_longer c.args.from.now.fields (g.D.Store.size c.args.disk.now) c.args.size (omega (arith, can.longer)) (meets_standard c.args.from.now.slot c.args.from.now.fields (g.D.Store.size c.args.disk.now) c.requires.slot c.requires.meets))) can (meets_standard c.args.from.now.slot c.args.from.now.fields (g.D.Store.size c.args.disk.now) c.requires.slot c.requires.meets)
    (new_sealing c.args.p.now c.args.pim c.args.from.now.prf c.args.from.now) g.D.Store.tells (g.D.Store.image c.args.disk.now) (g.D.Store.may_leave c.args.disk.now)
    (g.D.Store.left_since c.set_len.new.self (g.D.Store.moment c.args.disk.now))
    (g.met.D.Store.image_is_whole c.args.disk.now)
    (since_start g.D.Store.tells (g.D.Store.moment c.args.disk.now) (g.D.Store.moment c.set_len.new.self)
    (g.D.Store.left_since c.args.disk.now) (g.D.Store.left_since c.set_len.new.self)
    (g.D.Store.may_leave c.args.disk.now) (g.D.Store.may_leave c.set_len.new.self)
    (Expands (g.D.Store.size c.args.disk.now - 131072) c.args.size (new_sealing c.args.p.now c.args.pim c.args.from.now.prf c.args.from.now)
    (expanded_fields c.args.size c.args.from.now.fields))
    (returns-in-Err-Failed-clause-crash g c)
    (λ modelled x left. g.met.D.Store.only_now modelled c.args.disk.now x left))
