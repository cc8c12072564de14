use Rattle.std.proofs.Common.{◌∙◌, sym}
use Rattle.std.proofs.lemmas.Bool.{eq-eqb, ne_eqb}
use Rattle.byteorder.specs.Endian.{big_number}
use Rattle.nbd_hand.proofs.HeadAndData.{bad_magic, head_taken, none_after_magic, none_at_once}
use Rattle.nbd_hand.proofs.head.take_head.Goals as goal

pub returns-in-Err-clause-none : goal.returns-in-Err-clause-none
returns-in-Err-clause-none g c = none_at_once _ _ c.in-Err.stop c.end_of.result c.in-Err.ensures.stopped c.end_of.ensures

pub returns-then-read_u64-ne-MAGIC-clause-none : goal.returns-then-read_u64-ne-MAGIC-clause-none
returns-then-read_u64-ne-MAGIC-clause-none g c =
    bad_magic _ _ c.take.new.buf c.in_default.ensures.whole c.take.auto.buf
    (ne_eqb (big_number 8 c.take.new.buf) 0x49484156454f5054 (λ is. c.if-read_u64-ne-MAGIC.true (c.read_u64.ensures ∙ is)))

pub returns-in-Ok-clause-head : goal.returns-in-Ok-clause-head
returns-in-Ok-clause-head g c =
    head_taken _ _ c.take.new.buf c.in_default.ensures.whole c.take.auto.buf _ c.in-Ok.head.number c.in-Ok.head.length
    (eq-eqb (big_number 8 c.take.new.buf) 0x49484156454f5054 (sym c.read_u64.ensures ∙ c.if-read_u64-ne-MAGIC.false)) c.in-Ok.ensures.fields

pub returns-in-Err-take_fields-clause-none : goal.returns-in-Err-take_fields-clause-none
returns-in-Err-take_fields-clause-none g c =
    none_after_magic _ _ c.take.new.buf c.in_default.ensures.whole c.take.auto.buf _ c.in-Err-take_fields.stop c.end_of-in-Err-take_fields.result
    (eq-eqb (big_number 8 c.take.new.buf) 0x49484156454f5054 (sym c.read_u64.ensures ∙ c.if-read_u64-ne-MAGIC.false))
    c.in-Err-take_fields.ensures.stopped c.end_of-in-Err-take_fields.ensures
