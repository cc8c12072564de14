use Rattle.std.proofs.Common.{ℕ, drop, length, length-drop, refl, arith, ◌∙◌}
use Rattle.std.proofs.lemmas.Simd.{length-replicate}
use Rattle.std.proofs.Common.{replicate}
use Rattle.aes_core.specs.Aes.{cipher}
use Rattle.aes_core.proofs.EightBlocks.{front_of, none_of, cipher_length}
use Rattle.aes_core.proofs.rounds.encipher_rest.Goals as goal

pub returns-then-len-gt0 : goal.returns-then-len-gt0
returns-then-len-gt0 c =
    let keys = c.args.keys.now in
    let rest = c.args.rest.now in
    let zeros = drop (length rest) (replicate {A = ℕ} 128 0) in
    c.copy_from_slice-then-len-gt0.ensures.after
    ∙ front_of (cipher keys.schedule) (length rest) rest c.copy_from_slice.new.self zeros c.encipher_eight.new.group
    (λ b. cipher_length keys.schedule b keys.bytes.count) refl c.requires.whole
    (omega (arith, length-drop (length rest) (replicate {A = ℕ} 128 0), length-replicate {A = ℕ} 128 0)) c.copy_from_slice.ensures.after
    c.encipher_eight.ensures

pub returns-else-len-gt0 : goal.returns-else-len-gt0
returns-else-len-gt0 c = none_of (cipher c.args.keys.now.schedule) c.args.rest.now (omega arith)
