use Rattle.std.proofs.Common.{◌*◌, ◌-◌, arith}
use Rattle.vc_base.specs.Words.{words_of}
use Rattle.twofish_core.specs.Twofish.{g_under, exchanged, whitened}
use Rattle.twofish_core.proofs.Steps.{inverse_rounds_none, inverse_rounds_end}
use Rattle.twofish_core.proofs.blocks.decipher_two.Goals as goal

pub loop-i-init : goal.loop-i-init
loop-i-init c =
    let g = g_under c.args.boxes.now.words in
    let k = c.args.keys.now in
    record {
      first = rw (c.exchange-s.ensures, c.whiten.ensures, c.words_of.ensures)
          (inverse_rounds_none g k (exchanged (whitened k 4 (words_of c.args.p))));
      second = rw (c.exchange-t.ensures, c.whiten-2.ensures, c.words_of-2.ensures)
          (inverse_rounds_none g k (exchanged (whitened k 4 (words_of c.args.q))));
    }

pub loop-i-preserved : goal.loop-i-preserved
loop-i-preserved c =
    let i = c.loop-i.i in
    let k = c.args.keys.now in
    record {
      first = c.two_inverse_rounds-next_s.ensures (exchanged (whitened k 4 (words_of c.args.p)))
          (16 - 2 * i) (16 - 2 * (i - 1)) (omega arith) (omega arith) c.loop-i.invariant.first;
      second = c.two_inverse_rounds-next_t.ensures (exchanged (whitened k 4 (words_of c.args.q)))
          (16 - 2 * i) (16 - 2 * (i - 1)) (omega arith) (omega arith) c.loop-i.invariant.second;
    }

pub returns-clause-first : goal.returns-clause-first
returns-clause-first c =
    rw (c.block_of.ensures, c.whiten-3.ensures)
    (inverse_rounds_end (g_under c.args.boxes.now.words) c.args.keys.now c.args.p c.loop-i.s (2 * c.loop-i.i)
    (omega arith) c.loop-i.invariant.first)

pub returns-clause-second : goal.returns-clause-second
returns-clause-second c =
    rw (c.block_of-2.ensures, c.whiten-4.ensures)
    (inverse_rounds_end (g_under c.args.boxes.now.words) c.args.keys.now c.args.q c.loop-i.t (2 * c.loop-i.i)
    (omega arith) c.loop-i.invariant.second)
