use Rattle.std.proofs.Common.{◌≡◌, length, ap, ◌∙◌, arith}
use Rattle.volume_format.specs.declared.outer.FormatSpec.{FormatSpec}
use Rattle.drill_work.proofs.Header.{algorithm_is, container_is, fields_are, generator_is, opens}
use Rattle.drill_work.proofs.container.opened_container.Goals as goal

pub unreachable-requires-in_default : goal.unreachable-requires-in_default
unreachable-requires-in_default c =
    let long : length c.format_outer.new.disk ≡ 5242880 = c.in-Ok.ensures.size ∙ ap (λ (s : FormatSpec). s.size) c.spec-spec.ensures in
    opens c.open_plain-opened.result c.in_default.field-0 (length c.format_outer.new.disk) _ _ c.in_default.is
    (record { shortest = omega (arith, long); longest = omega (arith, long) })
    c.in-Ok.ensures.headers.opens.is_first c.open_plain-opened.ensures.none_valid c.open_plain-opened.ensures.length
    (λ e. absurd (omega (arith, c.open_plain-opened.ensures.cause.rose e))) c.open_plain-opened.ensures.memory

pub returns-clause-container : goal.returns-clause-container
returns-clause-container c =
    container_is c.args.n c.from_seed-rng.result c.spec-spec.result c.format_outer.new.disk c.open_plain-opened.new.disk
    (generator_is c.args.n _ c.from_seed-rng.result c.key_of.ensures c.from_seed-rng.ensures) c.spec-spec.ensures
    c.in-Ok.ensures.formatted c.open_plain-opened.ensures.image

pub returns-clause-algorithm : goal.returns-clause-algorithm
returns-clause-algorithm c =
    algorithm_is c.args.n c.from_seed-rng.result c.spec-spec.result c.format_outer.new.disk
    (generator_is c.args.n _ c.from_seed-rng.result c.key_of.ensures c.from_seed-rng.ensures) c.spec-spec.ensures
    c.in-Ok.ensures.headers c.in-Ok-opened.opened c.in-Ok-opened.ensures.opened

pub returns-clause-fields : goal.returns-clause-fields
returns-clause-fields c =
    fields_are c.args.n c.from_seed-rng.result c.spec-spec.result c.format_outer.new.disk
    (generator_is c.args.n _ c.from_seed-rng.result c.key_of.ensures c.from_seed-rng.ensures) c.spec-spec.ensures
    c.in-Ok.ensures.headers c.in-Ok-opened.opened c.in-Ok-opened.ensures.opened
