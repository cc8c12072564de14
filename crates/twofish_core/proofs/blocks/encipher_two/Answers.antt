use Rattle.std.proofs.Common.{◌*◌, ◌+◌, ap, ◌∙◌, arith}
use Rattle.vc_base.specs.Words.{words_of}
use Rattle.twofish_core.specs.Twofish.{g_under, whitened}
use Rattle.twofish_core.proofs.Steps.{rounds_none, rounds_end}
use Rattle.twofish_core.proofs.blocks.encipher_two.Goals as goal

pub loop-i-init : goal.loop-i-init
loop-i-init c =
    let g = g_under c.args.boxes.now.words in
    let k = c.args.keys.now in
    record {
      first = c.whiten-s.ensures ∙ ap (whitened k 0) c.words_of.ensures
          ∙ rounds_none g k (whitened k 0 (words_of c.args.p));
      second = c.whiten-t.ensures ∙ ap (whitened k 0) c.words_of-2.ensures
          ∙ rounds_none g k (whitened k 0 (words_of c.args.q));
    }

pub loop-i-preserved : goal.loop-i-preserved
loop-i-preserved c =
    let i = c.loop-i.i in
    let k = c.args.keys.now in
    record {
      first = c.two_rounds-next_s.ensures (whitened k 0 (words_of c.args.p)) (2 * i) (2 * (i + 1))
          (omega arith) (omega arith) c.loop-i.invariant.first;
      second = c.two_rounds-next_t.ensures (whitened k 0 (words_of c.args.q)) (2 * i) (2 * (i + 1))
          (omega arith) (omega arith) c.loop-i.invariant.second;
    }

pub returns-clause-first : goal.returns-clause-first
returns-clause-first c =
    rw (c.block_of.ensures, c.whiten.ensures, c.exchange.ensures)
    (rounds_end (g_under c.args.boxes.now.words) c.args.keys.now c.args.p c.loop-i.s (2 * c.loop-i.i)
    (omega arith) c.loop-i.invariant.first)

pub returns-clause-second : goal.returns-clause-second
returns-clause-second c =
    rw (c.block_of-2.ensures, c.whiten-2.ensures, c.exchange-2.ensures)
    (rounds_end (g_under c.args.boxes.now.words) c.args.keys.now c.args.q c.loop-i.t (2 * c.loop-i.i)
    (omega arith) c.loop-i.invariant.second)
