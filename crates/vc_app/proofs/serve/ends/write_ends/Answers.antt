use Rattle.std.proofs.Common.{sym, ◌∙◌}
use Rattle.vc_app.proofs.Ends.{no_disk_fault, no_out_fault, or_out_is}
use Rattle.vc_app.proofs.serve.ends.write_ends.Goals as goal

pub returns-in-Ok-clause-no_disk_fault : goal.returns-in-Ok-clause-no_disk_fault
returns-in-Ok-clause-no_disk_fault g c e = no_disk_fault 0 c.args.hands.now c.args.ends.now (sym c.worst_of-status.ensures ∙ e)

pub returns-in-Ok-clause-out_fault : goal.returns-in-Ok-clause-out_fault
returns-in-Ok-clause-out_fault g c = record {
  later = c.write_lines.ensures.cause.later;
  rose = λ e. absurd (no_out_fault 0 c.args.hands.now c.args.ends.now (sym c.worst_of-status.ensures ∙ e));
}

pub returns-in-Err-OutFault-clause-no_disk_fault : goal.returns-in-Err-OutFault-clause-no_disk_fault
returns-in-Err-OutFault-clause-no_disk_fault g c e =
    or_out_is c.worst_of-status.result c.or_out_fault.result c.or_out_fault.ensures (λ d. no_disk_fault 0 c.args.hands.now c.args.ends.now (sym c.worst_of-status.ensures ∙ d)) e
