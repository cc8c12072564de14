use Rattle.std.proofs.Common.{◌≡◌, ◌+◌, ◌*◌, ap, ◌∙◌, arith}
use Rattle.vc_base.specs.Bytes.{piece}
use Rattle.vc_base.specs.Words.{words_of}
use Rattle.lane_kernels.specs.SerpentRounds.{rounds, cipher}
use Rattle.lane_kernels.specs.Laws.Lanes.{lane}
use Rattle.lane_kernels.proofs.RoundByRound.{none, the_end}
use Rattle.lane_kernels.proofs.Groups.{eight_written}
use Rattle.lane_kernels.proofs.lane_rounds.encipher_eight.Goals as goal

pub loop-i-init : goal.loop-i-init
loop-i-init c = record {
  lanes = c.gather-x.ensures.lanes;
  done = λ j below.
      none c.args.keys.now.k (words_of (piece 16 j c.args.group.now)) (lane j c.gather-x.result)
      (c.gather-x.ensures.states j below);
}

pub loop-i-preserved : goal.loop-i-preserved
loop-i-preserved c =
    let i = c.loop-i.i in
    record {
      lanes = c.round-x.ensures.lanes;
      done = λ j below.
          let start = words_of (piece 16 j c.args.group.now) in
          c.round-x.ensures.done j start (8 * (i + 1)) below (omega arith)
          (c.seven_rounds-y.ensures.done j start below (c.loop-i.invariant.done j below));
    }

pub returns : goal.returns
returns c =
    let ks = c.args.keys.now.k in
    let group = c.args.group.now in
    let through : 8 * c.loop-i.i ≡ 24 = omega arith in
    eight_written (cipher ks) c.with_key-2.result group _ c.requires c.scatter.ensures
    (λ j below.
    let start = words_of (piece 16 j group) in
    the_end ks (piece 16 j group) (lane j c.seven_rounds-y-2.result) _ _ _
    (c.with_key.ensures.each j below) (c.boxed-last.ensures.each j below)
    (c.with_key-2.ensures.each j below)
    (c.seven_rounds-y-2.ensures.done j start below
    (c.loop-i.invariant.done j below ∙ ap (rounds ks start) through)))
