use Rattle.std.proofs.Common.{rules, ◌≡◌, ◌+◌, ◌-◌, ◌*◌, ◌/◌, ℕ, List, length, take, drop, min, Some, ap, sym, subst, ◌∙◌, arith}
use Rattle.std.specs.Prelude.{slice_get}
use Rattle.frag_pool.specs.declared.job.Job.{Job}
use Rattle.io_core.specs.Fragments.{fragments_of}
use Rattle.io_queue.specs.Laws.Works.{IsJobOf}
use Rattle.io_queue.proofs.Fragments.{each_pushed, fragment_lent, length_pushed}
use Rattle.io_queue.proofs.work.Work.shared.Goals as goal

lent : (c : goal.After-push_reserved) → c.part-part.result.now
    ≡ take (512 * min 512 (length c.args.bytes.now / 512 - 512 * c.loop-index.index)) (drop (512 * (512 * c.loop-index.index)) c.args.bytes.now)
lent c = search rules

pub loop-index-preserved : goal.loop-index-preserved
loop-index-preserved c =
    let bytes : List ℕ = c.args.bytes.now in
    let i : ℕ = c.loop-index.index in
    let job : Job = c.in_ok-job.job in
    let v = c.loop-index.invariant in
    let whole : length bytes ≡ 512 * (length bytes / 512) = omega (arith, c.requires.whole) in
    let by : job.caller ≡ c.args.caller = search rules in
    let only : job.number ≡ 0 = search rules in
    let place : job.index ≡ i = search rules in
    let from : job.unit ≡ c.args.unit + 512 * i = search rules in
    let copied : job.plain.items ≡ c.part-part.result.now = search rules in
    let is : IsJobOf c.args.caller c.args.unit bytes i job = record {
      by = by;
      only = only;
      place = place;
      from = from;
      plain = copied ∙ lent c ∙ fragment_lent bytes (length bytes / 512) i whole;
    } in (
      omega (arith, v.0, c.push_reserved.ensures.capacity),
      ap length c.push_reserved.ensures.items ∙ length_pushed c.loop-index.jobs.items job ∙ ap (λ (n : ℕ). n + 1) v.1,
      λ k j at. each_pushed (IsJobOf c.args.caller c.args.unit bytes) c.loop-index.jobs.items job v.2
          (subst (λ (n : ℕ). IsJobOf c.args.caller c.args.unit bytes n job) (sym v.1) is) k j
          (subst (λ (l : List Job). slice_get l k ≡ Some j) c.push_reserved.ensures.items at),
    )

pub returns : goal.returns
returns c =
    let count : c.div_ceil-count.result ≡ fragments_of c.args.bytes.now = search rules in
    record {
      work = record {
        as_many = omega (arith, c.loop-index.invariant.1, c.loop-index-test.false, c.loop-index.auto.index-end, count);
        each = c.loop-index.invariant.2;
      };
    }
