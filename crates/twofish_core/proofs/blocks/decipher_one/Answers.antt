use Rattle.std.proofs.Common.{◌*◌, ◌-◌, arith}
use Rattle.vc_base.specs.Words.{words_of}
use Rattle.twofish_core.specs.Twofish.{g_under, exchanged, whitened}
use Rattle.twofish_core.proofs.Steps.{inverse_rounds_none, inverse_rounds_end}
use Rattle.twofish_core.proofs.blocks.decipher_one.Goals as goal

pub loop-i-init : goal.loop-i-init
loop-i-init c =
    let k = c.args.keys.now in
    rw (c.exchange-s.ensures, c.whiten.ensures, c.words_of.ensures)
    (inverse_rounds_none (g_under c.args.boxes.now.words) k (exchanged (whitened k 4 (words_of c.args.p))))

pub loop-i-preserved : goal.loop-i-preserved
loop-i-preserved c =
    let i = c.loop-i.i in
    c.two_inverse_rounds-next.ensures (exchanged (whitened c.args.keys.now 4 (words_of c.args.p)))
    (16 - 2 * i) (16 - 2 * (i - 1)) (omega arith) (omega arith) c.loop-i.invariant

pub returns : goal.returns
returns c =
    rw (c.block_of.ensures, c.whiten-2.ensures)
    (inverse_rounds_end (g_under c.args.boxes.now.words) c.args.keys.now c.args.p c.loop-i.s (2 * c.loop-i.i)
    (omega arith) c.loop-i.invariant)
