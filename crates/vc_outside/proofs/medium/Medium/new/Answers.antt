use Rattle.std.proofs.Common.{rules}
use Rattle.vc_outside.proofs.ReadIsRecorded.{held-first}
use Rattle.vc_outside.proofs.medium.Medium.new.Goals as goal

pub invariant_of-result : goal.invariant_of-result
invariant_of-result c = held-first c.in_ok-from_slice.field-0.items c.args.bytes.items c.in_ok-new.field-0.events (search rules) (search rules)
