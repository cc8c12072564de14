use Rattle.std.proofs.Common.{◌≡◌, ap, ◌∙◌, arith}
use Rattle.drill_streams.specs.Drill.{request_of, word}
use Rattle.drill_streams.proofs.Replied.{both_ways, done_next, done_over, empty_is, never, not_begun, other_way}
use Rattle.drill_streams.proofs.done.all_done.Goals as goal

pub returns-in_default : goal.returns-in_default
returns-in_default c =
    let is : c.request-request.result ≡ request_of c.args.client c.loop-index.index (word c.args.n c.args.client c.loop-index.index)
    = c.request-request.ensures ∙ ap (request_of c.args.client c.loop-index.index) c.word.ensures in (
      λ yes. absurd (never yes),
      λ done. absurd (not_begun c.args.n c.args.client c.loop-index.index c.loop-index-test.true c.request-request.result is
          c.loop-index.rest.now c.in_default.ensures (c.loop-index.invariant.0 done)),
    )

pub loop-index-preserved : goal.loop-index-preserved
loop-index-preserved c =
    let is : c.request-request.result ≡ request_of c.args.client c.loop-index.index (word c.args.n c.args.client c.loop-index.index)
    = c.request-request.ensures ∙ ap (request_of c.args.client c.loop-index.index) c.word.ensures in
    both_ways c.loop-index.invariant
    (done_next c.args.n c.args.client c.loop-index.index c.loop-index-test.true c.request-request.result is c.loop-index.rest.now
    c.in-Some.others.now c.in-Some.ensures.0 c.in-Some.ensures.1)

pub returns : goal.returns
returns c =
    both_ways (empty_is c.is_empty.result c.loop-index.rest.now c.is_empty.ensures)
    (both_ways (other_way (done_over c.args.n c.args.client c.loop-index.index c.loop-index.rest.now (omega arith)))
    (other_way c.loop-index.invariant))
