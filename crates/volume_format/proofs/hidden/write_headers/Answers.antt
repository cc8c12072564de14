use Rattle.std.proofs.Common.{◌≡◌, ℕ, ◌+◌, refl, ap, ◌∙◌, arith}
use Rattle.rand_chacha.specs.ChaCha.{ChaCha}
use Rattle.volume_format.specs.Stream.{advanced}
use Rattle.volume_format.specs.Formatted.{key_bytes}
use Rattle.volume_format.specs.Hidden.{hidden_fields}
use Rattle.volume_format.proofs.Making.{cause_after}
use Rattle.volume_format.proofs.HiddenImages.{both_slots, drawn_later, drawn_on, first_slot, made_hidden, whole_by, whole_keys}
use Rattle.volume_format.proofs.hidden.write_headers.Goals as goal

pub returns-in_err-write_header-clause-outside : goal.returns-in_err-write_header-clause-outside
returns-in_err-write_header-clause-outside g c =
    first_slot (g.D.Store.image c.args.disk.now) (g.D.Store.image c.write_header.new.disk) c.write_header.ensures.outside

pub returns-in_err-write_header-2-clause-cause : goal.returns-in_err-write_header-2-clause-cause
returns-in_err-write_header-2-clause-cause g c =
    cause_after _ _ _ _ _ (omega (arith, c.write_header.ensures.cause.later))
    c.in_err-write_header-2.ensures.cause (λ _. refl)

pub returns-in_err-write_header-2-clause-outside : goal.returns-in_err-write_header-2-clause-outside
returns-in_err-write_header-2-clause-outside g c =
    both_slots (g.D.Store.image c.args.disk.now) (g.D.Store.image c.write_header.new.disk)
    (g.D.Store.image c.write_header-2.new.disk) c.args.len
    (whole_by (g.D.Store.image c.args.disk.now) (g.D.Store.size c.args.disk.now) c.args.len c.requires.size
    (g.met.D.Store.image_is_whole c.args.disk.now))
    c.write_header.ensures.outside c.write_header-2.ensures.outside

pub returns-clause-cause : goal.returns-clause-cause
returns-clause-cause g c =
    cause_after _ _ _ _ _ (omega (arith, c.write_header.ensures.cause.later))
    c.in_ok-write_header-2.ensures.cause (λ never. never)

pub returns-clause-outside : goal.returns-clause-outside
returns-clause-outside g c =
    both_slots (g.D.Store.image c.args.disk.now) (g.D.Store.image c.write_header.new.disk)
    (g.D.Store.image c.write_header-2.new.disk) c.args.len
    (whole_by (g.D.Store.image c.args.disk.now) (g.D.Store.size c.args.disk.now) c.args.len c.requires.size
    (g.met.D.Store.image_is_whole c.args.disk.now))
    c.write_header.ensures.outside c.write_header-2.ensures.outside

pub returns-clause-written : goal.returns-clause-written
returns-clause-written g c =
    let rng : ChaCha = c.args.rng.now in
    let keys : ℕ = key_bytes c.args.spec.now.algorithm in
    let moved : c.key_material-material.new.rng ≡ advanced rng keys = c.key_material-material.ensures.drawn in
    let moved' : c.next_salt-salt.new.rng ≡ advanced rng (keys + 64)
    = drawn_on rng c.key_material-material.new.rng c.next_salt-salt.new.rng keys 64
    (whole_keys c.args.spec.now.algorithm) moved c.next_salt-salt.ensures.drawn in
    made_hidden c.headers_open_again.ensures c.validity_is_decided.ensures (g.D.Store.image c.args.disk.now)
    (g.D.Store.image c.write_header.new.disk) (g.D.Store.image c.write_header-2.new.disk) rng c.args.spec.now c.args.len
    c.next_salt-salt.result c.next_salt-backup_salt.result c.hidden_fields-fields.result c.requires.hideable
    (whole_by (g.D.Store.image c.args.disk.now) (g.D.Store.size c.args.disk.now) c.args.len c.requires.size
    (g.met.D.Store.image_is_whole c.args.disk.now))
    (c.hidden_fields-fields.ensures c.args.len c.requires.start
    ∙ ap (hidden_fields c.args.len c.args.spec.now) c.key_material-material.ensures.material)
    (drawn_later rng c.key_material-material.new.rng keys c.next_salt-salt.result moved c.next_salt-salt.ensures.salt)
    (drawn_later rng c.next_salt-salt.new.rng (keys + 64) c.next_salt-backup_salt.result moved' c.next_salt-backup_salt.ensures.salt)
    (omega arith) (omega arith)
    c.write_header.ensures.opens_again c.write_header-2.ensures.opens_again
    c.in_ok-write_header.ensures.written c.in_ok-write_header-2.ensures.written
