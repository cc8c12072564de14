use Rattle.std.proofs.Common.{sym, subst, ap, ◌∙◌, take}
use Rattle.vc_header.specs.declared.fields.Fields.{Fields}
use Rattle.vc_header.specs.Header.{Meets}
use Rattle.header_try.proofs.First.{of_prf, fields_by, key_of_salt}
use Rattle.header_try.proofs.open.try_prf.Goals as goal

pub returns-in-Some-clause-first : goal.returns-in-Some-clause-first
returns-in-Some-clause-first c =
    of_prf c.args.slot c.args.prf c.args.header.now c.args.p.now c.derive-derived.result c.args.pim c.args.len _
    (key_of_salt c.args.prf c.args.header.now _ c.args.p.now c.derive-derived.result c.args.pim c.derive-derived.ensures
    (c.salt.ensures.salt ∙ ap (take 64) c.new.ensures))
    c.in-Some.ensures.least

pub returns-in-Some-clause-fields : goal.returns-in-Some-clause-fields
returns-in-Some-clause-fields c =
    fields_by _ c.args.prf c.args.header.now c.args.p.now c.derive-derived.result c.args.pim _
    (key_of_salt c.args.prf c.args.header.now _ c.args.p.now c.derive-derived.result c.args.pim c.derive-derived.ensures
    (c.salt.ensures.salt ∙ ap (take 64) c.new.ensures))
    c.in-Some.ensures.fields

pub returns-in-Some-clause-meets : goal.returns-in-Some-clause-meets
returns-in-Some-clause-meets c =
    let P : Fields → Type 0 = λ f. Meets f c.args.slot c.args.len in
    subst P (sym c.in-Some.ensures.fields) c.in-Some.ensures.valid.fields

pub returns-in-None-clause-first : goal.returns-in-None-clause-first
returns-in-None-clause-first c =
    of_prf c.args.slot c.args.prf c.args.header.now c.args.p.now c.derive-derived.result c.args.pim c.args.len _
    (key_of_salt c.args.prf c.args.header.now _ c.args.p.now c.derive-derived.result c.args.pim c.derive-derived.ensures
    (c.salt.ensures.salt ∙ ap (take 64) c.new.ensures))
    c.in-None.ensures.least
