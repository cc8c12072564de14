use Rattle.std.proofs.Common.{◌≡◌, ◌-◌, ℕ, length, subst, arith}
use Rattle.std.specs.Prelude.{IfSome}
use Rattle.vc_outside.specs.Told.{written}
use Rattle.vc_layout.specs.declared.slots.Slot.TheVariants.{BackupStandard}
use Rattle.vc_header.specs.declared.fields.Fields.{Fields}
use Rattle.volume_format.specs.Formatted.{Sealing, with_body}
use Rattle.volume_format.proofs.HiddenImages.{drawn_on}
use Rattle.volume_format.proofs.Making.{cause_after}
use Rattle.header_change.specs.Changed.{new_sealing}
use Rattle.header_change.specs.Pair.{OnlyPrimary}
use Rattle.header_change.proofs.Moments.{in_turn}
use Rattle.header_change.proofs.Steps.{on_ok, then_same, when_ok}
use Rattle.vol_expand.specs.Expanded.{fill_bytes, words_of}
use Rattle.vol_expand.specs.Stops.{Expands, Grows, HasNewBackup, PartsStay}
use Rattle.vol_expand.proofs.Filling.{words_whole}
use Rattle.vol_expand.proofs.Headers.{all_open, all_written, late, meets_at, standard_alone}
use Rattle.vol_expand.proofs.Moments.{grown_only, then_synced}
use Rattle.vol_expand.proofs.Parts.{both_fewer, both_then}
use Rattle.vol_expand.proofs.growth.rewrite.Goals as goal

pub restore-requires-clause-meets : goal.restore-requires-clause-meets
restore-requires-clause-meets g c =
    meets_at c.args.grown.now.slot c.args.grown.now.fields (g.D.Store.size c.sync.new.self) c.args.size c.requires.slot
    (omega (arith, c.sync.ensures.size, c.write_end.ensures.size, c.requires.size)) c.requires.meets

pub returns-in_err-write_end-clause-outside : goal.returns-in_err-write_end-clause-outside
returns-in_err-write_end-clause-outside g c =
    both_fewer 0 (c.args.len - 131072) 512 (c.args.len - 131072) (g.D.Store.image c.args.disk.now)
    (g.D.Store.image c.write_end.new.disk) (omega arith) (omega arith) c.write_end.ensures.outside

pub returns-in_err-write_end-clause-crash : goal.returns-in_err-write_end-clause-crash
returns-in_err-write_end-clause-crash g c =
    grown_only (new_sealing c.args.p.now c.args.pim c.args.grown.now.prf c.args.grown.now) c.args.grown.now.fields
    (c.args.len - 131072) c.args.size (omega (arith, c.requires.long)) g.D.Store.tells
    (g.D.Store.moment c.args.disk.now) (g.D.Store.moment c.write_end.new.disk)
    (g.D.Store.left_since c.args.disk.now) (g.D.Store.left_since c.write_end.new.disk)
    (g.D.Store.may_leave c.args.disk.now) (g.D.Store.may_leave c.write_end.new.disk) c.write_end.ensures.crash

pub returns-in_err-sync-clause-outside : goal.returns-in_err-sync-clause-outside
returns-in_err-sync-clause-outside g c =
    both_fewer 0 (c.args.len - 131072) 512 (c.args.len - 131072) (g.D.Store.image c.args.disk.now)
    (g.D.Store.image c.sync.new.self) (omega arith) (omega arith)
    (then_same (g.D.Store.image c.args.disk.now) (g.D.Store.image c.write_end.new.disk) (g.D.Store.image c.sync.new.self)
    (PartsStay 0 (c.args.len - 131072)) c.sync.ensures.image c.write_end.ensures.outside)

pub returns-in_err-sync-clause-crash : goal.returns-in_err-sync-clause-crash
returns-in_err-sync-clause-crash g c =
    grown_only (new_sealing c.args.p.now c.args.pim c.args.grown.now.prf c.args.grown.now) c.args.grown.now.fields
    (c.args.len - 131072) c.args.size (omega (arith, c.requires.long)) g.D.Store.tells
    (g.D.Store.moment c.args.disk.now) (g.D.Store.moment c.sync.new.self)
    (g.D.Store.left_since c.args.disk.now) (g.D.Store.left_since c.sync.new.self)
    (g.D.Store.may_leave c.args.disk.now) (g.D.Store.may_leave c.sync.new.self)
    (then_synced (Grows (c.args.len - 131072) c.args.size) g.D.Store.tells
    (g.D.Store.moment c.args.disk.now) (g.D.Store.moment c.write_end.new.disk) (g.D.Store.moment c.sync.new.self)
    (g.D.Store.left_since c.args.disk.now) (g.D.Store.left_since c.write_end.new.disk) (g.D.Store.left_since c.sync.new.self)
    (g.D.Store.may_leave c.args.disk.now) (g.D.Store.may_leave c.write_end.new.disk) (g.D.Store.may_leave c.sync.new.self)
    c.write_end.ensures.crash c.sync.ensures.crash)

pub returns-clause-written : goal.returns-clause-written
returns-clause-written g c =
    let k : Sealing = new_sealing c.args.p.now c.args.pim c.args.grown.now.prf c.args.grown.now in
    let f : Fields = c.args.grown.now.fields in
    on_ok c.restore.result (λ two. all_written c.args.rng.now c.write_end.new.rng k f c.args.grown.now.slot c.args.len c.args.size
    (g.D.Store.image c.args.disk.now) (g.D.Store.image c.sync.new.self) (g.D.Store.image c.restore.new.disk)
    c.requires.slot c.in_ok-write_end.ensures.drawn
    (then_same (g.D.Store.image c.args.disk.now) (g.D.Store.image c.write_end.new.disk) (g.D.Store.image c.sync.new.self)
    (λ b d. d ≡ with_body (new_sealing c.args.p.now c.args.pim c.args.grown.now.prf c.args.grown.now)
    c.args.grown.now.fields BackupStandard
    (written (c.args.len - 131072) (fill_bytes c.args.rng.now (c.args.size - (c.args.len - 131072))) b))
    c.sync.ensures.image c.in_ok-write_end.ensures.written) two)
    c.restore.ensures.restored

pub returns-clause-headers : goal.returns-clause-headers
returns-clause-headers g c =
    let k : Sealing = new_sealing c.args.p.now c.args.pim c.args.grown.now.prf c.args.grown.now in
    let f : Fields = c.args.grown.now.fields in
    on_ok c.restore.result (λ three. all_open k f c.args.grown.now.slot c.args.size
    (g.D.Store.image c.args.disk.now) (g.D.Store.image c.sync.new.self) (g.D.Store.image c.restore.new.disk)
    c.requires.slot (omega (arith, c.requires.long, c.requires.longer))
    (then_same (g.D.Store.image c.args.disk.now) (g.D.Store.image c.write_end.new.disk) (g.D.Store.image c.sync.new.self)
    (λ _ d. HasNewBackup k f c.args.size d) c.sync.ensures.image c.in_ok-write_end.ensures.backup)
    c.restore.ensures.outside three)
    c.restore.ensures.header

pub returns-clause-drawn : goal.returns-clause-drawn
returns-clause-drawn g c =
    when_ok c.restore.result (drawn_on c.args.rng.now c.write_end.new.rng c.restore.new.rng
    (words_of (c.args.size - (c.args.len - 131072))) 64 (words_whole (c.args.size - (c.args.len - 131072)))
    c.in_ok-write_end.ensures.drawn c.restore.ensures.drawn)

pub returns-clause-outside : goal.returns-clause-outside
returns-clause-outside g c =
    both_then 512 (c.args.len - 131072) (g.D.Store.size c.sync.new.self) (g.D.Store.image c.args.disk.now)
    (g.D.Store.image c.sync.new.self) (g.D.Store.image c.restore.new.disk)
    (omega (arith, c.sync.ensures.size, c.write_end.ensures.size, c.requires.size, c.requires.longer))
    (g.met.D.Store.image_is_whole c.sync.new.self)
    (both_fewer 0 (c.args.len - 131072) 512 (c.args.len - 131072) (g.D.Store.image c.args.disk.now)
    (g.D.Store.image c.sync.new.self) (omega arith) (omega arith)
    (then_same (g.D.Store.image c.args.disk.now) (g.D.Store.image c.write_end.new.disk) (g.D.Store.image c.sync.new.self)
    (PartsStay 0 (c.args.len - 131072)) c.sync.ensures.image c.write_end.ensures.outside))
    (standard_alone c.args.grown.now.slot (c.args.len - 131072) (g.D.Store.image c.sync.new.self)
    (g.D.Store.image c.restore.new.disk) c.requires.slot c.restore.ensures.outside)

pub returns-clause-crash : goal.returns-clause-crash
returns-clause-crash g c =
    let k : Sealing = new_sealing c.args.p.now c.args.pim c.args.grown.now.prf c.args.grown.now in
    let f : Fields = c.args.grown.now.fields in
    in_turn g.D.Store.tells (g.D.Store.moment c.args.disk.now) (g.D.Store.moment c.sync.new.self)
    (g.D.Store.moment c.restore.new.disk)
    (g.D.Store.left_since c.args.disk.now) (g.D.Store.left_since c.sync.new.self) (g.D.Store.left_since c.restore.new.disk)
    (g.D.Store.may_leave c.args.disk.now) (g.D.Store.may_leave c.sync.new.self) (g.D.Store.may_leave c.restore.new.disk)
    (Expands (c.args.len - 131072) c.args.size k f) (OnlyPrimary c.args.grown.now.slot)
    (Expands (c.args.len - 131072) c.args.size k f)
    (λ _ x after. after)
    (λ modelled x after. late c.args.grown.now.slot k f (c.args.len - 131072) c.args.size
    (g.D.Store.image c.args.disk.now) (g.D.Store.image c.sync.new.self)
    (g.D.Store.may_leave c.args.disk.now) (g.D.Store.may_leave c.sync.new.self)
    c.requires.slot (omega (arith, c.requires.long, c.requires.longer)) (omega (arith, c.requires.longer))
    (subst (λ (n : ℕ). IfSome (g.D.Store.image c.args.disk.now) (λ b. length b ≡ n)) c.requires.size
    (g.met.D.Store.image_is_whole c.args.disk.now))
    (then_same (g.D.Store.image c.args.disk.now) (g.D.Store.image c.write_end.new.disk) (g.D.Store.image c.sync.new.self)
    (PartsStay 0 (c.args.len - 131072)) c.sync.ensures.image c.write_end.ensures.outside)
    (then_same (g.D.Store.image c.args.disk.now) (g.D.Store.image c.write_end.new.disk) (g.D.Store.image c.sync.new.self)
    (λ _ d. HasNewBackup k f c.args.size d) c.sync.ensures.image c.in_ok-write_end.ensures.backup)
    (g.met.D.Store.image_may_stay c.args.disk.now modelled) (c.in_ok-sync.ensures.lasting modelled) x after)
    (grown_only k f (c.args.len - 131072) c.args.size (omega (arith, c.requires.long)) g.D.Store.tells
    (g.D.Store.moment c.args.disk.now) (g.D.Store.moment c.sync.new.self)
    (g.D.Store.left_since c.args.disk.now) (g.D.Store.left_since c.sync.new.self)
    (g.D.Store.may_leave c.args.disk.now) (g.D.Store.may_leave c.sync.new.self)
    (then_synced (Grows (c.args.len - 131072) c.args.size) g.D.Store.tells
    (g.D.Store.moment c.args.disk.now) (g.D.Store.moment c.write_end.new.disk) (g.D.Store.moment c.sync.new.self)
    (g.D.Store.left_since c.args.disk.now) (g.D.Store.left_since c.write_end.new.disk) (g.D.Store.left_since c.sync.new.self)
    (g.D.Store.may_leave c.args.disk.now) (g.D.Store.may_leave c.write_end.new.disk) (g.D.Store.may_leave c.sync.new.self)
    c.write_end.ensures.crash c.sync.ensures.crash))
    c.restore.ensures.crash

pub returns-clause-cause : goal.returns-clause-cause
returns-clause-cause g c =
    cause_after _ _ _ _ _ (omega (arith, c.write_end.ensures.cause.later, c.sync.ensures.cause.later)) c.restore.ensures.cause
    (λ failed. failed)
