use Rattle.std.proofs.Common.{◌+◌, length, refl, sym, arith, zero-add}
use Rattle.kdf_hmac.specs.Hmac.{output_length}
use Rattle.kdf_hmac.specs.Laws.Progress.{block}
use Rattle.kdf_hmac.proofs.Blocks.{count_is, start_inside, filled_none, filled_as, all_bytes}
use Rattle.kdf_hmac.proofs.Steps.{stepped_none, stepped_at}
use Rattle.kdf_hmac.proofs.pbkdf2_keys.fill.Goals as goal

pub pieces-init : goal.pieces-init
pieces-init g c =
    filled_none (block g.H.Hasher.prf c.args.password.now c.args.salt.now c.args.iterations) (output_length g.H.Hasher.prf)
    (length c.args.out.now) c.args.out.now

pub put_block-requires : goal.put_block-requires
put_block-requires g c =
    let inside = start_inside g.H.Hasher.prf (length c.args.out.now) c.output_length-length.result c.pieces.i c.output_length-length.ensures
    (omega arith) in
    omega (arith, inside, c.pieces.auto.out)

pub pieces-preserved : goal.pieces-preserved
pieces-preserved g c =
    let prf = g.H.Hasher.prf in
    let n = output_length prf in
    let p = c.args.password.now in
    let s = c.args.salt.now in
    let f = block prf p s c.args.iterations in
    let l = length c.args.out.now in
    let k = length c.pieces.out in
    let same = c.pieces.auto.out in
    let none = stepped_none prf p s (c.pieces.i + 1) c.new.result.mac c.new.result.sum in
    let block = c.block_after-block.result in
    let stepped = c.block_after-block.ensures p c.new-key.ensures none in
    let last = stepped_at prf p s (c.pieces.i + 1) block.mac block.sum (0 + c.args.iterations) c.args.iterations
    (zero-add c.args.iterations) stepped in
    filled_as f n n k l c.put_block.new.out (c.pieces.i + 1) refl same
    (c.put_block.ensures p s c.args.iterations last.sum_is
    (filled_as f n n l k c.pieces.out c.pieces.i refl (sym same) c.pieces.invariant))

pub returns : goal.returns
returns g c =
    let n_is = c.output_length-length.ensures in
    let l = length c.args.out.now in
    all_bytes g.H.Hasher.prf c.args.password.now c.args.salt.now c.args.iterations l c.pieces.out c.pieces.i c.pieces.auto.out
    (omega (arith, count_is g.H.Hasher.prf l c.output_length-length.result n_is)) c.pieces.invariant
