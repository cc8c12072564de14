use Rattle.vc_base.specs.Bytes.{in_pieces}
use Rattle.cipher_base.proofs.Loops.{Done}
use Rattle.lane_kernels.specs.SerpentRounds.{cipher}
use Rattle.lane_kernels.proofs.serpent.serpent_blocks.Given as goal

abbrev pub invariant-loop-i : goal.invariant-loop-i
invariant-loop-i l =
    Done 128 l.i (λ _ p. in_pieces 16 (λ _ b. cipher l.keys.k b) p) l.fn.blocks l.blocks

abbrev pub invariant-loop-j : goal.invariant-loop-j
invariant-loop-j l = Done 16 l.j (λ _ b. cipher l.keys.k b) l.fn.blocks l.blocks
