use Rattle.std.proofs.Common.{◌≡◌, ◌*◌}
use Rattle.vc_base.specs.Words.{words_of}
use Rattle.twofish_core.specs.Twofish.{g_under, rounds, whitened}
use Rattle.twofish_core.proofs.blocks.encipher_one.Given as goal

abbrev pub invariant-loop-i : goal.invariant-loop-i
invariant-loop-i l = l.s ≡ rounds (g_under l.boxes.words) l.keys (whitened l.keys 0 (words_of l.fn.p)) (2 * l.i)
