use Rattle.vc_outside.specs.Laws.Log.{events_of}
use Rattle.vc_outside.proofs.CrashIsReplayed.{SoFar}
use Rattle.vc_outside.proofs.record.Record.crash.Given as goal

abbrev pub invariant-loop-call : goal.invariant-loop-call
invariant-loop-call l = SoFar l.pick l.call-index (events_of l.self-inside.bytes.items l.call-items) l.first l.read.items l.image.items
