use Rattle.std.proofs.Common.{◌≡◌, ◌-◌, ◌*◌, ap, ◌∙◌, arith}
use Rattle.vc_base.specs.Bytes.{piece}
use Rattle.vc_base.specs.Words.{words_of}
use Rattle.lane_kernels.specs.SerpentRounds.{add_key, inverse_rounds, inverse_cipher}
use Rattle.lane_kernels.specs.Laws.Lanes.{lane}
use Rattle.lane_kernels.proofs.RoundByRound.{last_undone, the_start}
use Rattle.lane_kernels.proofs.Groups.{eight_written}
use Rattle.lane_kernels.proofs.lane_rounds.decipher_eight.Goals as goal

pub loop-i-init : goal.loop-i-init
loop-i-init c =
    let ks = c.args.keys.now.k in
    record {
      within = omega arith;
      lanes = c.seven_rounds_undone-x.ensures.lanes;
      undone = λ j below.
          let end = words_of (piece 16 j c.args.group.now) in
          c.seven_rounds_undone-x.ensures.undone j end below
          (last_undone ks end _ _ _
          (c.with_key.ensures.each j below ∙ ap (add_key ks 32) (c.gather.ensures.states j below))
          (c.unboxed-last.ensures.each j below) (c.with_key-2.ensures.each j below));
    }

pub loop-i-preserved : goal.loop-i-preserved
loop-i-preserved c =
    let i = c.loop-i.i in
    record {
      within = omega arith;
      lanes = c.seven_rounds_undone-x-in-loop-i.ensures.lanes;
      undone = λ j below.
          let end = words_of (piece 16 j c.args.group.now) in
          c.seven_rounds_undone-x-in-loop-i.ensures.undone j end below
          (c.round_undone-y.ensures.undone j end (31 - 8 * i) (24 - 8 * (i - 1)) below (omega arith)
          (omega arith) (c.loop-i.invariant.undone j below));
    }

pub returns : goal.returns
returns c =
    let ks = c.args.keys.now.k in
    let group = c.args.group.now in
    let through : 31 - 8 * c.loop-i.i ≡ 31 = omega arith in
    eight_written (inverse_cipher ks) c.loop-i.x group _ c.requires c.scatter.ensures
    (λ j below.
    the_start ks (piece 16 j group) (lane j c.loop-i.x)
    (c.loop-i.invariant.undone j below
    ∙ ap (inverse_rounds ks (words_of (piece 16 j group))) through))
