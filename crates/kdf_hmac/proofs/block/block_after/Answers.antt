use Rattle.std.proofs.Common.{◌+◌, ◌-◌, arith}
use Rattle.kdf_hmac.proofs.Steps.{stepped_at}
use Rattle.kdf_hmac.proofs.block.block_after.Goals as goal

pub returns-then-done-eq0 : goal.returns-then-done-eq0
returns-then-done-eq0 g c p keyed before =
    let salt = c.args.salt.now in
    stepped_at g.H.Hasher.prf p salt c.args.number c.more_steps.result.mac c.more_steps.result.sum (1 + (c.args.count - 1))
    (c.args.done + c.args.count) (omega arith)
    (c.more_steps.ensures p salt c.args.number 1 keyed (c.first_step-first.ensures p keyed))

pub returns-else-done-eq0 : goal.returns-else-done-eq0
returns-else-done-eq0 g c p keyed before =
    c.more_steps-else-done-eq0.ensures p c.args.salt.now c.args.number c.args.done keyed (before (omega arith))
