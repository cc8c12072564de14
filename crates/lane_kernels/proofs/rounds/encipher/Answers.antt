use Rattle.std.proofs.Common.{◌≡◌, ◌+◌, ◌*◌, ap, ◌∙◌, arith}
use Rattle.vc_base.specs.Words.{words_of}
use Rattle.lane_kernels.specs.SerpentRounds.{rounds}
use Rattle.lane_kernels.proofs.RoundByRound.{none, the_end}
use Rattle.lane_kernels.proofs.rounds.encipher.Goals as goal

pub loop-i-init : goal.loop-i-init
loop-i-init c = none c.args.keys.now.k (words_of c.args.block) c.words-x.result c.words-x.ensures

pub loop-i-preserved : goal.loop-i-preserved
loop-i-preserved c =
    let start = words_of c.args.block in
    let i = c.loop-i.i in
    c.round-x.ensures start (8 * (i + 1)) (omega arith)
    (c.seven_rounds-y.ensures start c.loop-i.invariant)

pub returns : goal.returns
returns c =
    let ks = c.args.keys.now.k in
    let start = words_of c.args.block in
    let through : 8 * c.loop-i.i ≡ 24 = omega arith in
    c.bytes.ensures
    ∙ the_end ks c.args.block c.seven_rounds-y-2.result _ _ _ c.with_key.ensures
    c.boxed-last.ensures c.with_key-2.ensures
    (c.seven_rounds-y-2.ensures start (c.loop-i.invariant ∙ ap (rounds ks start) through))
