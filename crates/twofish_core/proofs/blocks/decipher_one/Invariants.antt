use Rattle.std.proofs.Common.{◌≡◌, ◌*◌, ◌-◌}
use Rattle.vc_base.specs.Words.{words_of}
use Rattle.twofish_core.specs.Twofish.{g_under, inverse_rounds, whitened, exchanged}
use Rattle.twofish_core.proofs.blocks.decipher_one.Given as goal

abbrev pub invariant-loop-i : goal.invariant-loop-i
invariant-loop-i l =
    l.s ≡ inverse_rounds (g_under l.boxes.words) l.keys (exchanged (whitened l.keys 4 (words_of l.fn.p))) (16 - 2 * l.i)
