use Rattle.std.proofs.Common.{◌≡◌, ◌∙◌, arith, length}
use Rattle.aes_core.proofs.Words.{length-written, schedule_starts, schedule_goes_on, schedule_ends}
use Rattle.aes_core.proofs.schedule.fill.Goals as goal

pub loop-i-init : goal.loop-i-init
loop-i-init c =
    let whole : length c.args.words.now ≡ 240 = omega arith in (
      length-written 0 32 c.args.words.now c.copy_from_slice.new.self (omega arith) (omega arith) ∙ whole,
      schedule_starts c.args.key.now c.copy_from_slice.new.self _ (omega arith) c.copy_from_slice.ensures.after,
    )

pub loop-i-preserved : goal.loop-i-preserved
loop-i-preserved c = (
  length-written _ _ c.loop-i.words c.copy_from_slice-in-loop-i.new.self (omega arith) (omega arith) ∙ c.loop-i.invariant.0,
  schedule_goes_on c.args.key.now c.loop-i.words c.copy_from_slice-in-loop-i.new.self c.loop-i.i _ (omega arith) (omega arith) (omega arith)
      c.loop-i.invariant.1 (c.copy_from_slice-in-loop-i.ensures.after ∙ c.next-word.ensures),
)

pub returns : goal.returns
returns c = schedule_ends c.args.key.now c.loop-i.words c.loop-i.i (omega arith) c.loop-i.invariant.0 c.loop-i.invariant.1
