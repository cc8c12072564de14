use Rattle.std.proofs.Common.{◌≡◌, ◌+◌, ◌-◌, ◌*◌, List, ℕ, length, refl, ap, ◌∙◌, arith}
use Rattle.cipher_base.proofs.Loops.{starts, ends}
use Rattle.twofish_core.specs.Twofish.{g_under, cipher}
use Rattle.twofish_core.specs.Laws.Undone.{cipher_is_block}
use Rattle.twofish_core.proofs.Pairs.{block_more, pair_more, pairs_end}
use Rattle.twofish_core.proofs.cipher.Twofish256BlockCipher.encipher_blocks.Goals as goal

pub loop-i-init : goal.loop-i-init
loop-i-init c = starts _ _ _ _ refl

pub loop-i-preserved : goal.loop-i-preserved
loop-i-preserved c =
    let self = c.args.self.now in
    let f : List ℕ → List ℕ = λ b. cipher (g_under self.boxes.words) self.keys b in
    let i = c.loop-i.i in
    let long : (b : List ℕ) → length (f b) ≡ 16
    = λ b. (cipher_is_block (g_under self.boxes.words) self.keys b).count in
    let p = c.copy_from_slice.ensures.after ∙ c.encipher_two.ensures.first in
    let q = c.copy_from_slice-in-loop-i.ensures.after ∙ c.encipher_two.ensures.second in
    pair_more i (32 * i) (32 * i + 16 - 32 * i) (32 * i + 16) (32 * i + 32 - (32 * i + 16))
    f _ _ _ _ c.loop-i.invariant (omega arith) refl (omega arith) refl (omega arith)
    (p ∙ ap f c.block_at-p.ensures) (ap length p ∙ long _)
    (q ∙ ap f c.block_at-q.ensures) (ap length q ∙ long _)

pub loop-j-init : goal.loop-j-init
loop-j-init c =
    let self = c.args.self.now in
    pairs_end c.loop-i.i _ (cipher (g_under self.boxes.words) self.keys) _ _ c.loop-i.invariant
    (omega arith)

pub loop-j-preserved : goal.loop-j-preserved
loop-j-preserved c =
    let self = c.args.self.now in
    let f : List ℕ → List ℕ = λ b. cipher (g_under self.boxes.words) self.keys b in
    let j = c.loop-j.j in
    let block = c.copy_from_slice-in-loop-j.ensures.after ∙ c.encipher_one-block.ensures in
    block_more j (16 * j) (16 * j + 16 - 16 * j) f _ _ _ c.loop-j.invariant
    (omega arith) refl (omega arith) (block ∙ ap f c.block_at.ensures)
    (ap length block ∙ (cipher_is_block (g_under self.boxes.words) self.keys _).count)

pub returns : goal.returns
returns c =
    ends 16 c.loop-j.j _ _ _ c.loop-j.invariant (omega arith) (omega arith) (omega arith) c.requires
