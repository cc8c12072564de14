use Rattle.std.proofs.Common.{◌≡◌, arith}
use Rattle.vc_outside.specs.Told.{SameOutside, written}
use Rattle.vc_layout.specs.Layout.{place_of}
use Rattle.volume_format.proofs.Making.{cause_after}
use Rattle.header_change.proofs.Moments.{of_call, then_sync}
use Rattle.header_change.proofs.Steps.{then_same, when_ok}
use Rattle.header_change.proofs.header.write_lasting.Goals as goal

pub returns-in_err-write_header-clause-crash : goal.returns-in_err-write_header-clause-crash
returns-in_err-write_header-clause-crash g c =
    of_call g.D.Store.tells (g.D.Store.moment c.args.disk.now) (g.D.Store.moment c.write_header.new.disk)
    (g.D.Store.left_since c.args.disk.now) (g.D.Store.left_since c.write_header.new.disk)
    (g.D.Store.may_leave c.args.disk.now) (g.D.Store.may_leave c.write_header.new.disk)
    (SameOutside (place_of c.args.slot c.args.len) 512) c.write_header.ensures.crash

pub returns-clause-written : goal.returns-clause-written
returns-clause-written g c =
    when_ok c.sync.result
    (then_same (g.D.Store.image c.args.disk.now) (g.D.Store.image c.write_header.new.disk) (g.D.Store.image c.sync.new.self)
    (λ b d. d ≡ written (place_of c.args.slot c.args.len) c.args.header.now b)
    c.sync.ensures.image c.in_ok-write_header.ensures.written)

pub returns-clause-outside : goal.returns-clause-outside
returns-clause-outside g c =
    then_same (g.D.Store.image c.args.disk.now) (g.D.Store.image c.write_header.new.disk) (g.D.Store.image c.sync.new.self)
    (SameOutside (place_of c.args.slot c.args.len) 512)
    c.sync.ensures.image c.write_header.ensures.outside

pub returns-clause-crash : goal.returns-clause-crash
returns-clause-crash g c =
    then_sync g.D.Store.tells (g.D.Store.moment c.args.disk.now) (g.D.Store.moment c.write_header.new.disk)
    (g.D.Store.moment c.sync.new.self)
    (g.D.Store.left_since c.args.disk.now) (g.D.Store.left_since c.write_header.new.disk) (g.D.Store.left_since c.sync.new.self)
    (g.D.Store.may_leave c.args.disk.now) (g.D.Store.may_leave c.write_header.new.disk) (g.D.Store.may_leave c.sync.new.self)
    (SameOutside (place_of c.args.slot c.args.len) 512) c.write_header.ensures.crash c.sync.ensures.crash

pub returns-clause-cause : goal.returns-clause-cause
returns-clause-cause g c =
    cause_after _ _ _ _ _ (omega (arith, c.write_header.ensures.cause.later)) c.sync.ensures.cause (λ failed. failed)
