use Rattle.std.proofs.Common.{◌≡◌, ◌-◌, ◌*◌, ap, ◌∙◌, arith}
use Rattle.vc_base.specs.Words.{words_of}
use Rattle.lane_kernels.specs.SerpentRounds.{add_key, inverse_rounds}
use Rattle.lane_kernels.proofs.RoundByRound.{last_undone, the_start}
use Rattle.lane_kernels.proofs.rounds.decipher.Goals as goal

pub loop-i-init : goal.loop-i-init
loop-i-init c =
    let ks = c.args.keys.now.k in
    let end = words_of c.args.block in
    record {
      within = omega arith;
      undone = c.seven_rounds_undone-x.ensures end
          (last_undone ks end _ _ _ (c.with_key.ensures ∙ ap (add_key ks 32) c.words.ensures)
          c.unboxed-last.ensures c.with_key-2.ensures);
    }

pub loop-i-preserved : goal.loop-i-preserved
loop-i-preserved c =
    let end = words_of c.args.block in
    let i = c.loop-i.i in
    record {
      within = omega arith;
      undone = c.seven_rounds_undone-x-in-loop-i.ensures end
          (c.round_undone-y.ensures end (31 - 8 * i) (24 - 8 * (i - 1)) (omega arith) (omega arith)
          c.loop-i.invariant.undone);
    }

pub returns : goal.returns
returns c =
    let ks = c.args.keys.now.k in
    let end = words_of c.args.block in
    let through : 31 - 8 * c.loop-i.i ≡ 31 = omega arith in
    c.bytes.ensures
    ∙ the_start ks c.args.block c.loop-i.x
    (c.loop-i.invariant.undone ∙ ap (inverse_rounds ks end) through)
