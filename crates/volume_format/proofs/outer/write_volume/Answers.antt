use Rattle.std.proofs.Common.{◌≡◌, ℕ, refl, ap, ◌∙◌, arith}
use Rattle.rand_chacha.specs.ChaCha.{ChaCha}
use Rattle.volume_format.specs.Stream.{advanced, stream_bytes}
use Rattle.volume_format.proofs.Making.{cause_after, fields_are, filled_from, made}
use Rattle.volume_format.proofs.outer.write_volume.Goals as goal

pub returns-in_err-write_body-clause-cause : goal.returns-in_err-write_body-clause-cause
returns-in_err-write_body-clause-cause g c =
    cause_after _ _ _ _ _ (omega (arith, c.fill.ensures.cause.later)) c.in_err-write_body.ensures.cause (λ _. refl)

pub returns-in_err-write_body-2-clause-cause : goal.returns-in_err-write_body-2-clause-cause
returns-in_err-write_body-2-clause-cause g c =
    cause_after _ _ _ _ _
    (omega (arith, c.fill.ensures.cause.later, c.write_body.ensures.cause.later))
    c.in_err-write_body-2.ensures.cause (λ _. refl)

pub returns-clause-cause : goal.returns-clause-cause
returns-clause-cause g c =
    cause_after _ _ _ _ _
    (omega (arith, c.fill.ensures.cause.later, c.write_body.ensures.cause.later))
    c.in_ok-write_body-2.ensures.cause (λ never. never)

pub returns-clause-written : goal.returns-clause-written
returns-clause-written g c =
    let rng : ChaCha = c.args.rng.now in
    let size : ℕ = c.args.spec.now.size in
    let kept : c.salt_at-salt.new.rng ≡ rng = c.salt_at-salt.ensures.rng in
    let still : c.salt_at-backup_salt.new.rng ≡ rng = c.salt_at-backup_salt.ensures.rng ∙ kept in
    let moved : c.fill.new.rng ≡ advanced rng size
    = c.in_ok-fill.ensures.drawn ∙ ap (λ (h : ChaCha). advanced h size) still in
    made c.headers_open_again.ensures c.validity_is_decided.ensures (g.D.Store.image c.args.disk.now) (g.D.Store.image c.fill.new.disk)
    (g.D.Store.image c.write_body.new.disk) (g.D.Store.image c.write_body-2.new.disk)
    rng c.args.spec.now c.outer_fields-fields.result c.requires.formattable
    c.salt_at-salt.result c.salt_at-backup_salt.result
    (c.salt_at-salt.ensures.salt ∙ ap (λ (at : ℕ). stream_bytes rng at 64) c.slot_at.ensures)
    (c.salt_at-backup_salt.ensures.salt ∙ ap
    (λ (h : ChaCha). stream_bytes h c.slot_at-2.result 64) kept
    ∙ ap (λ (at : ℕ). stream_bytes rng at 64) c.slot_at-2.ensures)
    (fields_are rng c.fill.new.rng c.args.spec.now c.key_material-material.result
    c.outer_fields-fields.result moved
    c.key_material-material.ensures.material c.outer_fields-fields.ensures)
    c.write_body.ensures.opens_again c.write_body-2.ensures.opens_again
    (filled_from (g.D.Store.image c.args.disk.now)
    (g.D.Store.image c.fill.new.disk) _ rng size still
    c.in_ok-fill.ensures.filled)
    c.in_ok-write_body.ensures.written c.in_ok-write_body-2.ensures.written
