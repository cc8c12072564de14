use Rattle.std.proofs.Common.{ℕ, List, ◌≡◌, ◌+◌, ◌-◌, ◌*◌, length, take, drop, refl, ap, ◌∙◌, arith}
use Rattle.vc_base.specs.Bytes.{to_bytes, joined}
use Rattle.vc_base.proofs.Bytes.{length-to_bytes}
use Rattle.cipher_base.proofs.Loops.{length-put_mid, filled_none, filled_more, filled_front}
use Rattle.cipher_base.proofs.Stretches.{numbers_enciphered}
use Rattle.cipher_base.proofs.xts.Xts.first_tweaks.Goals as goal

pub loop-i-init : goal.loop-i-init
loop-i-init g c = record { long = refl; filled = filled_none _ _ _ _ refl }

pub loop-i-preserved : goal.loop-i-preserved
loop-i-preserved g c =
    let inv = c.loop-i.invariant in
    let long = inv.long in
    let i = c.loop-i.i in
    let number : ℕ → List ℕ = λ j. to_bytes 16 (c.args.unit + j) in
    let written : c.write_words.new.block ≡ number i = c.write_words.ensures ∙ ap (to_bytes 16) (omega arith) in
    let whole : length c.write_words.new.block ≡ 16 = ap length written ∙ length-to_bytes 16 (c.args.unit + i) in
    record {
      long = length-put_mid (16 * i) (16 * i + 16 - 16 * i) c.loop-i.tweaks c.write_words.new.block (omega arith) (omega arith) ∙ long;
      filled = filled_more 16 i (16 * i) (16 * i + 16 - 16 * i) number c.loop-i.tweaks
          c.write_words.new.block inv.filled refl (omega arith) (omega arith) written whole;
    }

pub returns : goal.returns
returns g c =
    let tweak = c.args.self.now.tweak in
    let count = c.args.count in
    let number : ℕ → List ℕ = λ j. to_bytes 16 (c.args.unit + j) in
    let front : take (16 * count) c.loop-i.tweaks ≡ joined number count
    = filled_front 16 c.loop-i.i count number c.loop-i.tweaks c.loop-i.invariant.filled (omega arith) in
    numbers_enciphered (g.P.BlockCipher.enciphered tweak) c.args.unit count (take (16 * count) c.loop-i.tweaks)
    _ (drop (16 * count) c.loop-i.tweaks)
    (g.met.P.BlockCipher.enciphered_is_block tweak) front c.encipher_blocks.ensures
