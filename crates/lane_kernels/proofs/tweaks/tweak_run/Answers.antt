use Rattle.std.proofs.Common.{◌≡◌, ◌+◌, ◌-◌, ◌*◌, ◌^◌, length, refl, ap, ◌∙◌, arith}
use Rattle.vc_base.specs.Bytes.{IsBytes}
use Rattle.cipher_base.specs.Field.{times_power}
use Rattle.cipher_base.proofs.Loops.{length-put_mid, filled_none, filled_more, filled_all}
use Rattle.cipher_base.proofs.Doubling.{times_power_first, times_power_next, first_below, next_below, IsBytes-times_power}
use Rattle.lane_kernels.proofs.tweaks.tweak_run.Goals as goal

pub loop-i-init : goal.loop-i-init
loop-i-init c =
    let bytes : IsBytes 16 c.args.t.now = record { count = c.told-t; each = λ i. c.fits-t i } in
    record {
      power = times_power_first _ c.args.t.now bytes c.words-low.ensures;
      fits = first_below _ c.args.t.now bytes c.words-low.ensures;
      long = c.told-out;
      filled = filled_none _ _ _ _ refl;
    }

pub loop-i-preserved : goal.loop-i-preserved
loop-i-preserved c =
    let inv = c.loop-i.invariant in
    let long = inv.long in
    let i = c.loop-i.i in
    let first = c.args.t.now in
    let written : c.write_words.new.block ≡ times_power i first = c.write_words.ensures ∙ inv.power in
    let whole : length c.write_words.new.block ≡ 16 = ap length written ∙ (IsBytes-times_power i first).count in
    record {
      power = times_power_next i (c.loop-i.low + 2 ^ 64 * c.loop-i.high) _ first inv.power inv.fits c.doubled.ensures;
      fits = next_below (c.loop-i.low + 2 ^ 64 * c.loop-i.high) _ inv.fits c.doubled.ensures;
      long = length-put_mid (16 * i) (16 * i + 16 - 16 * i) c.loop-i.out c.write_words.new.block (omega arith) (omega arith) ∙ long;
      filled = filled_more 16 i (16 * i) (16 * i + 16 - 16 * i) (λ j. times_power j first) c.loop-i.out
          c.write_words.new.block inv.filled refl (omega arith) (omega arith) written whole;
    }

pub returns : goal.returns
returns c =
    let inv = c.loop-i.invariant in
    filled_all 16 c.loop-i.i 32 (λ j. times_power j c.args.t.now) c.loop-i.out inv.filled (omega arith) inv.long
