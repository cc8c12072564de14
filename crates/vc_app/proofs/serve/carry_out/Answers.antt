use Rattle.std.proofs.Common.{Err, refl, ap, ◌∙◌, arith}
use Rattle.cmd_words.specs.Meaning.{meaning}
use Rattle.vc_app.proofs.Drilling.{drill_answered, serve_answered, unread_answered}
use Rattle.vc_app.proofs.ServedVolume.{no_value, unmoved}
use Rattle.vc_app.proofs.serve.carry_out.Goals as goal

pub returns-in-Some : goal.returns-in-Some
returns-in-Some g c =
    drill_answered g.D.Store _ g.I.Source g.O.Sink _ c.in-Some.n _ (meaning c.in-Ok.command) _ _ _
    c.in-Ok.ensures.command c.in-Some.ensures.number refl c.run_drill.ensures.pass c.run_drill.ensures.drilled

pub returns-in-None : goal.returns-in-None
returns-in-None g c =
    serve_answered g.D.Store _ g.I.Source g.O.Sink _ _ (meaning c.in-Ok.command) _ _ _
    c.in-Ok.ensures.command c.in-None.ensures.number refl c.serve_or_refuse.ensures

pub returns-in-Err : goal.returns-in-Err
returns-in-Err g c = let e = c.idle_end.ensures in
    unread_answered g.D.Store _ g.I.Source g.O.Sink _ _ (Err c.in-Err.error) c.in-Err.error
    _ _ refl c.in-Err.ensures.usage (no_value _ _ e.pass)
    (record {
      idle = record {
        hands = e.hands;
        ends = e.ends;
        replies = e.replies;
        callers = e.callers;
        clients = e.clients;
        quiet = ap g.P.Sink.contents e.out;
        out_same = ap g.P.Sink.faults e.out;
      };
      unchanged = unmoved g.D.Store g.P.Sink c.args.disk c.idle_end.result.disk c.args.out c.idle_end.result.out e.disk;
      later = omega (arith, ap g.D.Store.faults e.disk);
    })
    (ap g.D.Store.faults e.disk) (ap g.D.Store.moment e.disk) (e.status ∙ c.from-status.ensures)
