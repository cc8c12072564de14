use Rattle.std.proofs.Common.{rules}
use Rattle.io_core.proofs.Opening.{core_start, sound_start}
use Rattle.io_core.proofs.state.Core.new.Goals as goal

pub invariant_of-result : goal.invariant_of-result
invariant_of-result g c =
    core_start (g.S.Store.size c.args.disk) c.args.geometry c.new-2.result.range c.in-Ok.book c.in-Ok-with_capacity.pending
    c.args.capacity c.in-Ok-vec.room c.requires.placed c.requires.some c.requires.few c.in-Ok.ensures
    c.in-Ok-with_capacity.ensures.items c.in-Ok-with_capacity.ensures.capacity c.in-Ok-vec.ensures.len

pub returns-clause-sound : goal.returns-clause-sound
returns-clause-sound g c = sound_start g.S.Store g.C.UnitCipher _ (search rules) (search rules)
