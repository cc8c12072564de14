use Rattle.std.proofs.Common.{◌*◌, ◌+◌, ap, ◌∙◌, arith}
use Rattle.vc_base.specs.Words.{words_of}
use Rattle.twofish_core.specs.Twofish.{g_under, whitened}
use Rattle.twofish_core.proofs.Steps.{rounds_none, rounds_end}
use Rattle.twofish_core.proofs.blocks.encipher_one.Goals as goal

pub loop-i-init : goal.loop-i-init
loop-i-init c =
    let k = c.args.keys.now in
    c.whiten-s.ensures ∙ ap (whitened k 0) c.words_of.ensures
    ∙ rounds_none (g_under c.args.boxes.now.words) k (whitened k 0 (words_of c.args.p))

pub loop-i-preserved : goal.loop-i-preserved
loop-i-preserved c =
    let i = c.loop-i.i in
    c.two_rounds-next.ensures (whitened c.args.keys.now 0 (words_of c.args.p)) (2 * i) (2 * (i + 1))
    (omega arith) (omega arith) c.loop-i.invariant

pub returns : goal.returns
returns c =
    rw (c.block_of.ensures, c.whiten.ensures, c.exchange.ensures)
    (rounds_end (g_under c.args.boxes.now.words) c.args.keys.now c.args.p c.loop-i.s (2 * c.loop-i.i)
    (omega arith) c.loop-i.invariant)
