use Rattle.std.proofs.Common.{ap, ◌∙◌, arith}
use Rattle.vc_base.specs.Bytes.{piece}
use Rattle.aes_core.specs.Aes.{add_round_key, inverse_cipher}
use Rattle.aes_core.proofs.EightBlocks.{start_of, eight_written}
use Rattle.aes_core.proofs.RoundByRound.{inverse_rounds_none, inverse_rounds_more, inverse_rounds_end}
use Rattle.aes_core.proofs.rounds.decipher_eight.Goals as goal

pub loop-round-init : goal.loop-round-init
loop-round-init c =
    let w = c.args.keys.now.schedule in
    record {
      from = omega arith;
      planes = c.with_round_key-x.ensures.planes;
      done = λ k below.
          c.with_round_key-x.ensures.each k below
          ∙ ap (add_round_key w 14) (start_of c.args.group.now c.gather.result c.rows_turned.result c.transposed.result c.requires c.gather.ensures.rows c.rows_turned.ensures.each c.transposed.ensures k below)
          ∙ inverse_rounds_none w (piece 16 k c.args.group.now);
    }

pub loop-round-preserved : goal.loop-round-preserved
loop-round-preserved c =
    let w = c.args.keys.now.schedule in
    record {
      from = omega arith;
      planes = c.unmixed-x.ensures.planes;
      done = λ k below.
          rw (c.unmixed-x.ensures.each k below, c.with_round_key.ensures.each k below, c.unsubstituted.ensures.each k below, c.unshifted.ensures.each k below)
          (inverse_rounds_more w (piece 16 k c.args.group.now) c.loop-round.round (omega arith) (omega arith) _ (c.loop-round.invariant.done k below));
    }

pub returns : goal.returns
returns c =
    let w = c.args.keys.now.schedule in
    eight_written (inverse_cipher w) c.with_round_key-last.result c.transposed-2.result c.rows_turned-2.result c.args.group.now _ c.requires
    c.transposed-2.ensures c.rows_turned-2.ensures.each c.scatter.ensures
    (λ k below.
    rw (c.with_round_key-last.ensures.each k below, c.unsubstituted-2.ensures.each k below, c.unshifted-2.ensures.each k below)
    (inverse_rounds_end w (piece 16 k c.args.group.now) c.loop-round.round (omega arith) _ (c.loop-round.invariant.done k below)))
