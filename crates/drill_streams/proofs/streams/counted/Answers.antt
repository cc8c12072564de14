use Rattle.std.proofs.Common.{◌≡◌, ◌==◌, ◌/◌, if◌then◌else◌, ap, ◌∙◌, arith}
use Rattle.nbd_wire.specs.Frames.{Frame}
use Rattle.nbd_wire.specs.declared.request.Request.{Request}
use Rattle.drill_streams.specs.Drill.{request_of, word}
use Rattle.drill_streams.proofs.Added.{added, added_all}
use Rattle.drill_streams.proofs.streams.counted.Goals as goal

pub loop-index-preserved : goal.loop-index-preserved
loop-index-preserved c =
    let is : c.request-request.result ≡ request_of c.args.client c.loop-index.index (word c.args.n c.args.client c.loop-index.index)
    = c.request-request.ensures ∙ ap (request_of c.args.client c.loop-index.index) c.word.ensures in
    let long = ap (λ (q : Request). q.length) is in
    record {
      of_reads = added (λ (f : Frame). if f.request.kind == 0 then 1 else 0) _ _ _ _ _ c.loop-index.invariant.of_reads _ c.loop-index-test.true
          (c.one_if-reads.ensures.value ∙ ap (λ (q : Request). if q.kind == 0 then 1 else 0) is);
      of_writes = added (λ (f : Frame). if f.request.kind == 1 then 1 else 0) _ _ _ _ _ c.loop-index.invariant.of_writes _ c.loop-index-test.true
          (c.one_if-writes.ensures.value ∙ ap (λ (q : Request). if q.kind == 1 then 1 else 0) is);
      of_sectors = added (λ (f : Frame). if f.request.kind == 1 then f.request.length / 512 else 0) _ _ _ _ _ c.loop-index.invariant.of_sectors _ c.loop-index-test.true
          (c.written-sectors.ensures.value ∙ ap (λ (q : Request). if q.kind == 1 then q.length / 512 else 0) is);
      few_reads = omega (arith, c.loop-index.invariant.few_reads, c.one_if-reads.ensures.few);
      few_writes = omega (arith, c.loop-index.invariant.few_writes, c.one_if-writes.ensures.few);
      few_sectors = omega (arith, c.loop-index.invariant.few_sectors, c.written-sectors.ensures.few, long);
    }

pub returns-clause-reads : goal.returns-clause-reads
returns-clause-reads c =
    added_all (λ (f : Frame). if f.request.kind == 0 then 1 else 0) c.args.n c.args.client c.loop-index.index _ _ c.loop-index.invariant.of_reads (omega arith)

pub returns-clause-writes : goal.returns-clause-writes
returns-clause-writes c =
    added_all (λ (f : Frame). if f.request.kind == 1 then 1 else 0) c.args.n c.args.client c.loop-index.index _ _ c.loop-index.invariant.of_writes (omega arith)

pub returns-clause-sectors : goal.returns-clause-sectors
returns-clause-sectors c =
    added_all (λ (f : Frame). if f.request.kind == 1 then f.request.length / 512 else 0) c.args.n c.args.client c.loop-index.index _ _ c.loop-index.invariant.of_sectors (omega arith)
