use Rattle.std.proofs.Common.{◌+◌, ◌∙◌, arith, length-append, length-drop, length-set}
use Rattle.serpent_core.proofs.KeyByKey.{prekeys_start, prekeys_go_on}
use Rattle.serpent_core.proofs.schedule.all_words.Goals as goal

pub loop-i-init : goal.loop-i-init
loop-i-init c = (
  simp (length-append, length-drop) (omega arith),
  prekeys_start c.args.key.now c.copy_from_slice.new.self _
      (c.copy_from_slice.ensures.after ∙ c.key_words.ensures),
)

pub loop-i-preserved : goal.loop-i-preserved
loop-i-preserved c = (
  length-set c.loop-i.words (c.loop-i.i + 8) c.prekey-next.result ∙ c.loop-i.invariant.0,
  prekeys_go_on c.args.key.now c.loop-i.words c.loop-i.i c.prekey-next.result (omega arith)
      c.loop-i.invariant.1 c.prekey-next.ensures,
)
