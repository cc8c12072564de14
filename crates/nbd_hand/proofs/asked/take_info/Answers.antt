use Rattle.std.proofs.Common.{sym, ap, ◌∙◌, arith}
use Rattle.byteorder.specs.Endian.{big_number}
use Rattle.nbd_hand.specs.Laws.Parts.{after_length}
use Rattle.nbd_hand.proofs.Parts.{length_first, ok_later, stops_err, takes_all}
use Rattle.nbd_hand.proofs.asked.take_info.Goals as goal

pub returns-clause-asked : goal.returns-clause-asked
returns-clause-asked g c = ok_later _ _ _ 4 c.take_name.result _ _ c.args.n (after_length c.read_u32.result) _
    (takes_all _ _ c.take.new.buf 4 c.in_default.ensures.whole c.take.auto.buf)
    (λ xs ys size is. length_first xs ys size ∙ ap (λ n. after_length n ys) (ap (big_number 4) is ∙ sym c.read_u32.ensures)) (omega (arith, c.if-n-lt6.false)) c.take_name.ensures.asked

pub returns-clause-stopped : goal.returns-clause-stopped
returns-clause-stopped g c = stops_err _ _ _ 4 _ c.args.n _ c.take_name.result (takes_all _ _ c.take.new.buf 4 c.in_default.ensures.whole c.take.auto.buf)
    (omega (arith, c.if-n-lt6.false)) c.take_name.ensures.stopped
