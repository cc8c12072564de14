use Rattle.std.proofs.Common.{◌≤◌, length, sym, ◌∙◌, arith}
use Rattle.std.proofs.lemmas.List.{length-take}
use Rattle.nbd_hand.proofs.Streams.{more_skipped, skips_on}
use Rattle.nbd_hand.proofs.input.pass.Goals as goal

pub parts-preserved : goal.parts-preserved
parts-preserved g c =
    let here : c.min-part.result ≤ c.parts.left = omega (arith, c.min-part.ensures) in
    let within : c.fill-taken.result.count ≤ c.min-part.result = omega (arith, c.fill-taken.ensures.within, length-take c.min-part.result c.parts.scratch) in
    let room : c.fill-taken.result.count ≤ length c.fill-taken.new.buf = omega (arith, c.fill-taken.ensures.within, c.fill-taken.auto.buf) in record {
      given = more_skipped _ _ _ c.args.n c.parts.left c.min-part.result c.fill-taken.result.count c.parts.invariant.given.0 c.fill-taken.new.buf
          c.parts.invariant.given.1 c.parts.invariant.given.2 here within room c.fill-taken.ensures.given;
      later = omega (arith, c.parts.invariant.later, c.fill-taken.ensures.cause.later);
    }

pub returns-then-is_some-clause-skipped : goal.returns-then-is_some-clause-skipped
returns-then-is_some-clause-skipped g c =
    let here : c.min-part.result ≤ c.parts.left = omega (arith, c.min-part.ensures) in
    let within : c.fill-taken.result.count ≤ c.min-part.result = omega (arith, c.fill-taken.ensures.within, length-take c.min-part.result c.parts.scratch) in
    let room : c.fill-taken.result.count ≤ length c.fill-taken.new.buf = omega (arith, c.fill-taken.ensures.within, c.fill-taken.auto.buf) in
    skips_on _ _ _ c.args.n c.parts.left c.min-part.result c.fill-taken.result.count c.parts.invariant.given.0 c.fill-taken.new.buf
    c.parts.invariant.given.1 c.parts.invariant.given.2 here within room c.fill-taken.ensures.given
    c.fill-taken.result.stop (sym c.is_some.ensures ∙ c.if-is_some.true) (c.fill-taken.ensures.short (sym c.is_some.ensures ∙ c.if-is_some.true)) c.fill-taken.ensures.ended
