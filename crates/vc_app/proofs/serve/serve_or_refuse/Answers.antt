use Rattle.std.proofs.Common.{sym, ap, arith}
use Rattle.vc_app.proofs.Drilling.{kept_as}
use Rattle.vc_app.proofs.ServedVolume.{no_value, unmoved, usage_kept}
use Rattle.vc_app.proofs.serve.serve_or_refuse.Goals as goal

pub returns-in-Some : goal.returns-in-Some
returns-in-Some g c = kept_as g.D.Store _ g.I.Source g.O.Sink _ _ _ _ c.in-Some.ensures.asked c.serve_asked.ensures

pub returns-in-None : goal.returns-in-None
returns-in-None g c = let e = c.idle_end.ensures in
    usage_kept g.D.Store _ g.I.Source g.O.Sink _ _ _ (sym c.in-None.ensures.asked) (no_value _ _ e.pass)
    (record {
      idle = record {
        hands = e.hands;
        ends = e.ends;
        replies = e.replies;
        callers = e.callers;
        clients = e.clients;
        quiet = ap g.P.Sink.contents e.out;
        out_same = ap g.P.Sink.faults e.out;
      };
      unchanged = unmoved g.D.Store g.P.Sink c.args.disk c.idle_end.result.disk c.args.out c.idle_end.result.out e.disk;
      later = omega (arith, ap g.D.Store.faults e.disk);
    })
    e.status
