use Rattle.std.proofs.Common.{◌≡◌, ℕ, ◌+◌, ◌-◌, length, subst, arith}
use Rattle.std.specs.Prelude.{IfSome}
use Rattle.rand_chacha.specs.ChaCha.{ChaCha}
use Rattle.volume_format.specs.Stream.{advanced}
use Rattle.volume_format.proofs.Making.{cause_after}
use Rattle.header_change.specs.Changed.{new_sealing}
use Rattle.header_change.proofs.Steps.{on_ok, when_ok}
use Rattle.vol_expand.specs.Expanded.{words_of}
use Rattle.vol_expand.proofs.Filling.{IsFilled}
use Rattle.vol_expand.proofs.Headers.{end_opens, end_written}
use Rattle.vol_expand.proofs.Moments.{then_written}
use Rattle.vol_expand.proofs.Parts.{both_before, both_then}
use Rattle.vol_expand.proofs.end.write_end.Goals as goal

pub returns-clause-written : goal.returns-clause-written
returns-clause-written g c =
    on_ok c.write_body.result (λ two. end_written c.args.rng.now
    (new_sealing c.args.p.now c.args.pim c.args.grown.now.prf c.args.grown.now) c.args.grown.now.fields
    c.args.len c.args.size c.salt_in_fill-salt.result
    (g.D.Store.image c.args.disk.now) (g.D.Store.image c.fill.new.disk) (g.D.Store.image c.write_body.new.disk)
    c.requires.long c.requires.longer
    (subst (λ (n : ℕ). IfSome (g.D.Store.image c.args.disk.now) (λ b. length b ≡ n)) c.requires.size
    (g.met.D.Store.image_is_whole c.args.disk.now))
    (c.salt_in_fill-salt.ensures.salt (c.args.size - (c.args.len - 131072)) (omega (arith, c.requires.long, c.requires.longer)))
    (subst (λ (h : ChaCha). IsFilled h (c.args.len - 131072) (c.args.size - (c.args.len - 131072))
    (g.D.Store.image c.args.disk.now) (g.D.Store.image c.fill.new.disk)) c.salt_in_fill-salt.ensures.rng
    c.in_ok-fill.ensures.filled) two)
    c.write_body.ensures.written

pub returns-clause-backup : goal.returns-clause-backup
returns-clause-backup g c =
    on_ok c.write_body.result (λ two. end_opens c.args.rng.now
    (new_sealing c.args.p.now c.args.pim c.args.grown.now.prf c.args.grown.now) c.args.grown.now.fields
    c.args.len c.args.size c.salt_in_fill-salt.result
    (g.D.Store.image c.args.disk.now) (g.D.Store.image c.fill.new.disk) (g.D.Store.image c.write_body.new.disk)
    c.requires.long c.requires.longer
    (subst (λ (n : ℕ). IfSome (g.D.Store.image c.args.disk.now) (λ b. length b ≡ n)) c.requires.size
    (g.met.D.Store.image_is_whole c.args.disk.now))
    (c.salt_in_fill-salt.ensures.salt (c.args.size - (c.args.len - 131072)) (omega (arith, c.requires.long, c.requires.longer)))
    c.headers_open_again.ensures (omega arith) c.write_body.ensures.opens_again c.requires.meets
    (subst (λ (h : ChaCha). IsFilled h (c.args.len - 131072) (c.args.size - (c.args.len - 131072))
    (g.D.Store.image c.args.disk.now) (g.D.Store.image c.fill.new.disk)) c.salt_in_fill-salt.ensures.rng
    c.in_ok-fill.ensures.filled) two)
    c.write_body.ensures.written

pub returns-clause-drawn : goal.returns-clause-drawn
returns-clause-drawn g c =
    when_ok c.write_body.result
    (subst (λ (h : ChaCha). c.fill.new.rng ≡ advanced h (words_of (c.args.size - (c.args.len - 131072))))
    c.salt_in_fill-salt.ensures.rng c.in_ok-fill.ensures.drawn)

pub returns-clause-outside : goal.returns-clause-outside
returns-clause-outside g c =
    both_then 0 (c.args.len - 131072) (g.D.Store.size c.fill.new.disk) (g.D.Store.image c.args.disk.now)
    (g.D.Store.image c.fill.new.disk) (g.D.Store.image c.write_body.new.disk)
    (omega (arith, c.fill.ensures.size, c.requires.size, c.requires.longer))
    (g.met.D.Store.image_is_whole c.fill.new.disk) c.fill.ensures.outside
    (both_before (c.args.size - 131072 + 64) 448 (c.args.len - 131072) (g.D.Store.image c.fill.new.disk)
    (g.D.Store.image c.write_body.new.disk) (omega (arith, c.requires.longer)) c.write_body.ensures.outside)

pub returns-clause-crash : goal.returns-clause-crash
returns-clause-crash g c =
    then_written (c.args.len - 131072) c.args.size (c.args.size - 131072 + 64) 448 (omega (arith, c.requires.longer))
    (omega (arith, c.requires.longer)) g.D.Store.tells
    (g.D.Store.moment c.args.disk.now) (g.D.Store.moment c.fill.new.disk) (g.D.Store.moment c.write_body.new.disk)
    (g.D.Store.left_since c.args.disk.now) (g.D.Store.left_since c.fill.new.disk) (g.D.Store.left_since c.write_body.new.disk)
    (g.D.Store.may_leave c.args.disk.now) (g.D.Store.may_leave c.fill.new.disk) (g.D.Store.may_leave c.write_body.new.disk)
    c.fill.ensures.crash c.write_body.ensures.crash

pub returns-clause-cause : goal.returns-clause-cause
returns-clause-cause g c =
    cause_after _ _ _ _ _ (omega (arith, c.fill.ensures.cause.later)) c.write_body.ensures.cause (λ failed. failed)
