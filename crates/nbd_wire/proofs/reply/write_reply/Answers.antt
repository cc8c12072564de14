use Rattle.std.proofs.Common.{◌≡◌, length, drop, refl, ap, ◌∙◌, arith}
use Rattle.std.proofs.lemmas.List.{length-drop}
use borrow.Rule.Slice.PartMut.{put_mid}
use Rattle.byteorder.specs.Endian.{big_bytes}
use Rattle.nbd_wire.proofs.After.{length-rest, length-rest_all, three_parts}
use Rattle.nbd_wire.proofs.reply.write_reply.Goals as goal

pub returns : goal.returns
returns c =
    let tail : length (drop 4 c.args.out.now) ≡ 12 = omega (arith, length-drop 4 c.args.out.now, c.told-out) in
    let first : length c.write_u32.new.buf ≡ 16 = ap length c.write_u32.ensures ∙ omega (arith, tail) in
    three_parts (big_bytes 4 0x67446698) (big_bytes 4 c.args.error) (big_bytes 8 c.args.cookie) _ _ _ _ _ _
    refl refl refl tail (omega (arith, length-rest 4 4 12 c.write_u32.new.buf, first)) (length-rest_all 8 8 (put_mid 4 12 c.write_u32.new.buf c.write_u32-2.new.buf))
    c.write_u32.ensures c.write_u32-2.ensures c.write_u64.ensures
