use Rattle.std.proofs.Common.{Err, map, refl, sym, subst}
use Rattle.std.specs.Prelude.{string_bytes}
use Rattle.cmd_words.specs.Meaning.{meaning}
use Rattle.vc_app.specs.declared.status.Status.{Status}
use Rattle.vc_app.specs.Commands.{promise_of}
use Rattle.vc_app.specs.Promise.{Kept, seen}
use Rattle.vc_app.proofs.CommandIsChosen.{line_kept, unread_kept}
use Rattle.vc_app.proofs.PromiseIsKept.{complete_kept}
use Rattle.vc_app.proofs.plain.run_plain.Goals as goal

pub returns-in-Ok : goal.returns-in-Ok
returns-in-Ok g c =
    let kept : Kept (promise_of (map string_bytes c.args.words.now)) c.carry_out-status.result
    (seen g.D.Store g.O.Sink c.args.disk c.args.out) (seen g.D.Store g.O.Sink c.carry_out-status.new.disk c.carry_out-status.new.out)
    = line_kept _ (meaning c.in-Ok.command) _ _ _ c.in-Ok.ensures.command c.carry_out-status.ensures in
    record { kept = kept; complete = complete_kept _ _ _ _ kept }

pub returns-in-Err : goal.returns-in-Err
returns-in-Err g c =
    let now = seen g.D.Store g.O.Sink c.args.disk c.args.out in
    let kept : Kept (promise_of (map string_bytes c.args.words.now)) c.from.result now now
    = subst (λ (s : Status). Kept (promise_of (map string_bytes c.args.words.now)) s now now) (sym c.from.ensures)
    (unread_kept _ (Err c.in-Err.error) c.in-Err.error now refl c.in-Err.ensures.usage) in
    record { kept = kept; complete = complete_kept _ _ _ _ kept }
