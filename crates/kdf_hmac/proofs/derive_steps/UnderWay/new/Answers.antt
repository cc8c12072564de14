use Rattle.std.proofs.Common.{◌+◌, sym, ◌∙◌, subst, arith}
use Rattle.kdf_hmac.specs.Laws.Absorbed.{IsKeyed}
use Rattle.kdf_hmac.specs.Hmac.{output_length}
use Rattle.kdf_hmac.specs.Laws.Progress.{block}
use Rattle.kdf_hmac.proofs.Blocks.{filled_none}
use Rattle.kdf_hmac.proofs.Steps.{stepped_none}
use Rattle.kdf_hmac.proofs.derive_steps.UnderWay.new.Goals as goal

pub invariant_of-result : goal.invariant_of-result
invariant_of-result g c = record {
  keyed =
      subst (λ p. IsKeyed g.H.Hasher.holds g.H.Hasher.prf c.new.result.inner c.new.result.outer p)
      (c.bytes.ensures.bytes ∙ sym c.copied.ensures) c.new.ensures;
  finished = filled_none (block g.H.Hasher.prf c.copied.result c.args.salt.now c.args.iterations) (output_length g.H.Hasher.prf) 192 _;
  at_work = stepped_none g.H.Hasher.prf c.copied.result c.args.salt.now (0 + 1) c.new-2.result.mac c.new-2.result.sum;
  within = omega arith;
  short = omega arith;
  fits = omega arith;
}
