use Rattle.std.proofs.Common.{◌+◌, ◌-◌, ◌*◌, length, refl, ap, ◌∙◌, arith}
use Rattle.cipher_base.proofs.Loops.{starts, goes_on, ends}
use Rattle.lane_kernels.specs.SerpentRounds.{cipher}
use Rattle.lane_kernels.proofs.Blocks.{cipher-bytes}
use Rattle.cipher_base.proofs.ByGroups.{regrouped, group_more}
use Rattle.lane_kernels.proofs.serpent.serpent_blocks.Goals as goal

pub loop-i-init : goal.loop-i-init
loop-i-init c = starts _ _ _ _ refl

pub loop-i-preserved : goal.loop-i-preserved
loop-i-preserved c =
    let i = c.loop-i.i in
    group_more i (128 * i + 128 - 128 * i) (cipher c.args.keys.now.k) _ _ c.encipher_eight.new.group
    c.loop-i.invariant (omega arith) (omega arith) c.encipher_eight.ensures (omega arith)

pub loop-j-init : goal.loop-j-init
loop-j-init c =
    regrouped c.loop-i.i _ (cipher c.args.keys.now.k) _ _ (omega arith) (omega arith)
    c.loop-i.invariant

pub loop-j-preserved : goal.loop-j-preserved
loop-j-preserved c =
    let j = c.loop-j.j in
    let written = c.copy_from_slice-in-loop-j.ensures.after in
    goes_on 16 j (16 * j) (16 * j + 16 - 16 * j) _ _ _ c.copy_from_slice-in-loop-j.new.self
    c.loop-j.invariant refl (omega arith) (omega arith)
    (written ∙ c.encipher.ensures ∙ ap (cipher c.args.keys.now.k) c.copy_from_slice.ensures.after)
    (ap length (written ∙ c.encipher.ensures) ∙ (cipher-bytes c.args.keys.now.k _).count)

pub returns : goal.returns
returns c =
    ends 16 c.loop-j.j _ _ _ c.loop-j.invariant (omega arith) (omega arith) (omega arith)
    c.requires
