use Rattle.std.proofs.Common.{refl, subst}
use Rattle.vc_header.specs.declared.fields.Fields.{Fields}
use Rattle.vc_header.specs.Header.{Meets}
use Rattle.vc_header.proofs.fields.read_plain.Goals as goal

pub returns-then-meets_rules-clause-valid : goal.returns-then-meets_rules-clause-valid
returns-then-meets_rules-clause-valid c =
    let marks = c.if-not-is_marked.ensures.0 refl in
    let checksums = c.if-not-has_checksums.ensures.0 refl in
    let rules = c.if-meets_rules.ensures.0 refl in
    let P : Fields → Type 0 = λ f. Meets f c.args.slot c.args.len in (
      λ _. record {
        magic = marks.0;
        version = marks.1;
        keys_checksum = checksums.0;
        fields_checksum = checksums.1;
        fields = subst P c.all_fields-fields.ensures rules;
      },
      λ _. refl,
    )
